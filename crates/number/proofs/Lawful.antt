-- What is limited is lawful, and what is lawful is not changed by limiting.
use Rattle.std.proofs.Common.{◌≡◌, true, ℤ, pos, negsuc, arith}
use Rattle.std.proofs.lemmas.Bool.Decides.{nat_tests}
use Rattle.number.specs.Limits.{limited_to, lawful}
use Rattle.number.specs.declared.limit.Width.{Width}
use Rattle.number.specs.declared.limit.Width.TheVariants.{Word, Double}

pub limited_lawful : (w : Width) (z : ℤ) → lawful w (limited_to w z) ≡ true
limited_lawful Word (pos n) = grind (arith, nat_tests)
limited_lawful Word (negsuc n) = grind (arith, nat_tests)
limited_lawful Double (pos n) = grind (arith, nat_tests)
limited_lawful Double (negsuc n) = grind (arith, nat_tests)

pub limited_same : (w : Width) (z : ℤ) → lawful w z ≡ true → limited_to w z ≡ z
limited_same Word (pos n) h = grind (arith, nat_tests)
limited_same Word (negsuc n) h = grind (arith, nat_tests)
limited_same Double (pos n) h = grind (arith, nat_tests)
limited_same Double (negsuc n) h = grind (arith, nat_tests)
