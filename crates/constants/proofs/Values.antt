-- Values and their words.
use Rattle.std.proofs.Common.{◌≡◌, ℕ, ◌+◌, ◌*◌, ◌/◌, ◌%◌, ◌<◌, false, ◌&&◌, eqb, ℤ, pos, negsuc, ◌≤ℤ◌, arith}
use Rattle.std.proofs.lemmas.Int.{ints}
use Rattle.std.proofs.lemmas.Bool.Decides.{nat_tests}
use Rattle.image.specs.Constants.{bits_32}
use Rattle.constants.specs.Decoded.{word_value, double_value}

module _ (b : ℕ) (fits : b < 65536) (lawful : eqb b 32768 ≡ false) where
  pub word_least : negsuc 32766 ≤ℤ word_value b
  word_least = grind (arith, nat_tests, ints)

  pub word_most : word_value b ≤ℤ pos 32767
  word_most = grind (arith, nat_tests, ints)

  pub word_bits : bits_32 (word_value b) % 65536 ≡ b
  word_bits = grind (arith, nat_tests)

module _ (b : ℕ) (fits : b < 4294967296) where
  pub double_bits : bits_32 (double_value b) ≡ b
  double_bits = grind (arith, nat_tests)

  pub double_most : double_value b ≤ℤ pos 2147483647
  double_most = grind (arith, nat_tests, ints)

  pub double_least : eqb b 2147483648 ≡ false → negsuc 2147483646 ≤ℤ double_value b
  double_least h = grind (arith, nat_tests, ints)

-- a lawful value is read back from its words

pub word_lawful : (z : ℤ) → negsuc 32766 ≤ℤ z → z ≤ℤ pos 32767 → eqb (bits_32 z % 65536) 32768 ≡ false
word_lawful (pos n) l m = grind (arith, nat_tests, ints)
word_lawful (negsuc n) l m = grind (arith, nat_tests, ints)

pub word_again : (z : ℤ) → negsuc 32766 ≤ℤ z → z ≤ℤ pos 32767 → word_value (bits_32 z % 65536) ≡ z
word_again (pos n) l m = grind (arith, nat_tests, ints)
word_again (negsuc n) l m = grind (arith, nat_tests, ints)

pub double_lawful : (z : ℤ) → negsuc 2147483646 ≤ℤ z → z ≤ℤ pos 2147483647 → eqb (bits_32 z % 65536) 0 && eqb (bits_32 z / 65536) 32768 ≡ false
double_lawful (pos n) l m = grind (arith, nat_tests, ints)
double_lawful (negsuc n) l m = grind (arith, nat_tests, ints)

pub double_again : (z : ℤ) → negsuc 2147483646 ≤ℤ z → z ≤ℤ pos 2147483647 → double_value (65536 * (bits_32 z / 65536) + bits_32 z % 65536) ≡ z
double_again (pos n) l m = grind (arith, nat_tests, ints)
double_again (negsuc n) l m = grind (arith, nat_tests, ints)
