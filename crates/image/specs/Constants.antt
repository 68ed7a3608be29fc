-- The two words of a constant's value.
use Rattle.std.specs.Prelude.{ℕ, ◌-◌, ◌/◌, ◌%◌, ℤ, pos, negsuc}
use Rattle.operand.specs.Kinds.{size_of}
use Rattle.operand.specs.declared.kind.Size.{Size}
use Rattle.operand.specs.declared.kind.Size.TheVariants.{Bit, Word, Double}
use Rattle.image.specs.declared.constant.Constant.{Constant}

-- a value's 32 bits, in two's complement: -1 is negsuc 0
abbrev pub bits_32 : ℤ → ℕ
bits_32 (pos n) = n
bits_32 (negsuc n) = 4294967295 - n

abbrev pub low_word : Constant → ℕ
low_word c = bits_32 c.value % 65536

-- only a double fills its high word
abbrev pub high_half : Size → ℤ → ℕ
high_half Bit value = 0
high_half Word value = 0
high_half Double value = bits_32 value / 65536

abbrev pub high_word : Constant → ℕ
high_word c = high_half (size_of c.operand.kind) c.value
