-- Lawful words and doubles, and whole numbers limited to them.
use Rattle.std.specs.Prelude.{ℕ, Bool, cond, ◌&&◌, ℤ, pos, neg_ℤ, int_le, int_lt}
use Rattle.number.specs.declared.limit.Width.{Width}
use Rattle.number.specs.declared.limit.Width.TheVariants.{Word, Double}

-- the largest lawful value; the lowest is its negative
abbrev pub top_of : Width → ℕ
top_of Word = 32767
top_of Double = 2147483647

-- a whole number cut to -top .. top
abbrev pub limited : ℕ → ℤ → ℤ
limited top z = cond (int_lt (pos top) z) (pos top) (cond (int_lt z (neg_ℤ (pos top))) (neg_ℤ (pos top)) z)

abbrev pub limited_to : Width → ℤ → ℤ
limited_to w z = limited (top_of w) z

abbrev pub lawful : Width → ℤ → Bool
lawful w z = int_le (neg_ℤ (pos (top_of w))) z && int_le z (pos (top_of w))

-- What is read where a value is held: 8000h and 8000 0000h, the one value of each width that is
-- forbidden, lie one below the lowest lawful one and are read as that.
abbrev pub corrected : Width → ℤ → ℤ
corrected w z = limited_to w z
