-- What memory tells. These definitions stay shut for the crates above, which go by the laws.
use Rattle.std.specs.Prelude.{ℕ, ℤ}
use Rattle.operand.specs.declared.operand.Operand.{Operand}
use Rattle.operand.specs.Codes.{place_of}
use Rattle.store.specs.declared.store.Store.{Store}
use Rattle.store.specs.Values.{value_at, cell_at, group_told, word_told}

-- the value of an operand: a bit as 0 or 1, words and doubles corrected; 0 where memory has no such place
unfoldable pub value_of : Store → Operand → ℤ
value_of m o = value_at m o.kind (place_of o)

-- the history cell c
unfoldable pub cell_of : Store → ℕ → ℤ
cell_of m c = cell_at m c

-- the sixteen outputs of a group as a word, channel 0 the lowest bit
unfoldable pub outputs_of : Store → ℕ → ℕ
outputs_of m group = group_told m group

-- the sixteen bits of the output word at a place
unfoldable pub output_word_of : Store → ℕ → ℕ
output_word_of m p = word_told m p
