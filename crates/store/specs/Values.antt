-- What memory tells of a place.
use Rattle.std.specs.Prelude.{ℕ, ◌*◌, ◌/◌, ◌%◌, false, ℤ, pos, ◌==◌, slice_index, slice_index_or}
use Rattle.number.specs.Limits.{corrected}
use Rattle.number.specs.declared.limit.Width.TheVariants.{Word, Double}
use Rattle.operand.specs.declared.kind.Kind.{Kind}
use Rattle.operand.specs.declared.kind.Kind.TheVariants.{Input, Output, Marker, Step, Constant, InputWord, OutputWord, MarkerWord, ConstantWord, MarkerDouble, ConstantDouble}
use Rattle.store.specs.declared.store.Store.{Store}
use Rattle.store.specs.Chains.{is_set, no_chain}
use Rattle.store.specs.Words.{bit, signed, sixteen_bits}
use Rattle.store.specs.Places.{gathered}

-- the value of the operand of a kind at a place, 0 where there is none; no value read is forbidden
abbrev pub value_at : Store → Kind → ℕ → ℤ
value_at m Input p = bit (slice_index_or m.inputs p false)
value_at m Output p = bit (slice_index_or m.outputs p false)
value_at m Marker p = bit (slice_index_or m.markers p false)
value_at m Step p = bit (is_set (slice_index_or m.chains (p / 16) no_chain) (p % 16))
value_at m Constant p = bit (p == 1)
value_at m InputWord p = corrected Word (signed (slice_index m.input_words p))
value_at m OutputWord p = corrected Word (slice_index_or m.output_words p (pos 0))
value_at m MarkerWord p = corrected Word (slice_index_or m.marker_words p (pos 0))
value_at m ConstantWord p = corrected Word (slice_index_or m.constant_words p (pos 0))
value_at m MarkerDouble p = corrected Double (slice_index_or m.marker_doubles p (pos 0))
value_at m ConstantDouble p = corrected Double (slice_index_or m.constant_doubles p (pos 0))

-- the history cell c
abbrev pub cell_at : Store → ℕ → ℤ
cell_at m c = slice_index_or m.history c (pos 0)

-- the sixteen outputs of a group as a word, channel 0 the lowest bit
abbrev pub group_told : Store → ℕ → ℕ
group_told m group = gathered m.outputs (16 * group) 16

-- the sixteen bits of an output word
abbrev pub word_told : Store → ℕ → ℕ
word_told m p = sixteen_bits (slice_index_or m.output_words p (pos 0))
