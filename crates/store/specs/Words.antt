-- Bits and words as whole numbers, and back.
use Rattle.std.specs.Prelude.{ℕ, zero, suc, ◌-◌, ◌/◌, ◌%◌, Bool, true, false, cond, ℤ, pos, negsuc, ◌==◌, nat_lt}

abbrev pub bit : Bool → ℤ
bit true = pos 1
bit false = pos 0

-- a value stands for 1 when it is not 0
abbrev pub truth : ℤ → Bool
truth (pos zero) = false
truth (pos (suc n)) = true
truth (negsuc n) = true

-- sixteen bits as a signed number: from 8000h on it is negative
abbrev pub signed : ℕ → ℤ
signed w = cond (nat_lt w 32768) (pos w) (negsuc (65535 - w))

-- a signed number as its sixteen bits
abbrev pub sixteen_bits : ℤ → ℕ
sixteen_bits (pos n) = n
sixteen_bits (negsuc n) = 65535 - n

-- a word without its lowest n bits
unfoldable pub shifted : ℕ → ℕ → ℕ
shifted w zero = w
shifted w (suc n) = shifted w n / 2

-- the bit n of a word; bit 0 is the lowest
abbrev pub bit_of : ℕ → ℕ → Bool
bit_of w n = shifted w n % 2 == 1
