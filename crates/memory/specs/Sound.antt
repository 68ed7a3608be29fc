-- Sound memory: each chain has exactly one step set, and nothing that operands write is forbidden.
use Rattle.std.specs.Prelude.{◌≡◌, ℕ, ◌<◌, true, List, ℤ, pos, ◌==◌, slice_index_or}
use Rattle.number.specs.Limits.{lawful}
use Rattle.number.specs.declared.limit.Width.{Width}
use Rattle.number.specs.declared.limit.Width.TheVariants.{Word, Double}
use Rattle.operand.specs.declared.kind.Kind.TheVariants.{Step}
use Rattle.operand.specs.declared.operand.Operand.{Operand}
use Rattle.store.specs.declared.store.Store.{Store}
use Rattle.store.specs.Words.{bit}
use Rattle.memory.specs.Facts.{sizes_of, all_sizes}
use Rattle.memory.specs.Readings.{value_of}

abbrev pub step_at : ℕ → ℕ → Operand
step_at group channel = record { kind = Step; group = group; channel = channel }

-- of the sixteen steps of a group just one reads 1, all others read 0
abbrev pub OneSet : Store → ℕ → Type 0
OneSet m group = (s : ℕ) × ((s < 16) × ((c : ℕ) → c < 16 → value_of m (step_at group c) ≡ bit (s == c)))

-- each place holds a value that its width allows: not 8000h, not 8000 0000h
abbrev pub HoldsLawful : Width → List ℤ → Type 0
HoldsLawful w zs = (p : ℕ) → lawful w (slice_index_or zs p (pos 0)) ≡ true

-- input words are not spoken of: a plant may give any 16 bits, and reading corrects them
pub record Sound (m : Store) : Type 0 where
  pub whole : sizes_of m ≡ all_sizes
  pub chains : (group : ℕ) → group < 128 → OneSet m group
  pub output_words : HoldsLawful Word m.output_words
  pub marker_words : HoldsLawful Word m.marker_words
  pub constant_words : HoldsLawful Word m.constant_words
  pub marker_doubles : HoldsLawful Double m.marker_doubles
  pub constant_doubles : HoldsLawful Double m.constant_doubles
