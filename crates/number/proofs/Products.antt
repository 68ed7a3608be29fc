-- The product of two numbers of 32 bits is above the lowest number of 64 bits.
use Rattle.std.proofs.Common.{ℕ, zero, suc, ◌*◌, ◌<◌, ◌≤◌, ℤ, pos, negsuc, ◌*ℤ◌, neg_ℤ, ◌≤ℤ◌, mul-le-mul, arith, le→leb}
use lib.Signed.{mag, le_z_yes}

negative_above : (n : ℕ) → n ≤ 4611686018427387904 → negsuc 9223372036854775806 ≤ℤ (neg_ℤ (pos n))
negative_above zero h = le_z_yes tt
negative_above (suc n) h = le_z_yes (le→leb n 9223372036854775806 (omega arith))

pub product_above : (a b : ℤ) → mag a < 2147483648 → mag b < 2147483648 → negsuc 9223372036854775806 ≤ℤ (a *ℤ b)
product_above (pos a) (pos b) p q = le_z_yes tt
product_above (pos a) (negsuc b) p q = negative_above (a * suc b) (mul-le-mul {n₂ = 2147483648} {m₂ = 2147483648} (omega arith) (omega arith))
product_above (negsuc a) (pos b) p q = negative_above (suc a * b) (mul-le-mul {n₂ = 2147483648} {m₂ = 2147483648} (omega arith) (omega arith))
product_above (negsuc a) (negsuc b) p q = le_z_yes tt
