-- What stands at a pin or in a cell, and what a block tells.
use Rattle.std.specs.Prelude.{ℕ, Bool, false, cond, not, ◌&&◌, List, [], ◌∷◌, ℤ, pos, slice_index_or}
use Rattle.number.specs.Limits.{corrected}
use Rattle.number.specs.Operations.{is_zero}
use Rattle.number.specs.declared.limit.Width.TheVariants.{Word, Double}
use Rattle.block.specs.declared.worked.Worked.{Worked}

abbrev pub value_at : List ℤ → ℕ → ℤ
value_at values k = slice_index_or values k (pos 0)

-- a bit is 1 when it is not 0
abbrev pub on : ℤ → Bool
on value = not (is_zero value)

abbrev pub bit_at : List ℤ → ℕ → Bool
bit_at values k = on (value_at values k)

-- the input rises over what the cell of the same number keeps
abbrev pub rises_at : List ℤ → List ℤ → ℕ → Bool
rises_at inputs cells k = bit_at inputs k && not (bit_at cells k)

abbrev pub word_at : List ℤ → ℕ → ℤ
word_at values k = corrected Word (value_at values k)

abbrev pub double_at : List ℤ → ℕ → ℤ
double_at values k = corrected Double (value_at values k)

abbrev pub bit : Bool → ℤ
bit b = cond b (pos 1) (pos 0)

abbrev pub three_outputs : ℤ → ℤ → ℤ → Worked
three_outputs a b c = record { outputs = a ∷ b ∷ c ∷ []; jumps = false }

abbrev pub one_output : ℤ → Worked
one_output a = three_outputs a (pos 0) (pos 0)

abbrev pub jump : Bool → Worked
jump taken = record { outputs = pos 0 ∷ pos 0 ∷ pos 0 ∷ []; jumps = taken }
