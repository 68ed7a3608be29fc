-- What the changes of memory do to operands and history cells.
use Rattle.std.specs.Prelude.{◌≡◌, ℕ, ◌/◌, ◌%◌, ◌<◌, ◌≤◌, true, false, List, ℤ, pos, ◌==◌, ◌≢◌, slice_index_or}
use Rattle.number.specs.Limits.{corrected, limited_to}
use Rattle.number.specs.declared.limit.Width.TheVariants.{Word, Double}
use Rattle.operand.specs.declared.edition.Edition.{Edition}
use Rattle.operand.specs.declared.kind.Kind.{Kind}
use Rattle.operand.specs.declared.kind.Kind.TheVariants.{Input, Output, Marker, Step, Constant, InputWord, OutputWord, MarkerWord, ConstantWord, MarkerDouble, ConstantDouble}
use Rattle.operand.specs.declared.operand.Operand.{Operand}
use Rattle.operand.specs.Codes.{place_of, in_range}
use Rattle.store.specs.declared.store.Store.{Store}
use Rattle.store.specs.Words.{bit, truth, signed, bit_of}
use Rattle.memory.specs.Readings.{value_of, cell_of}

-- every operand that is no target has its value still
abbrev pub OperandsKept : (Operand → Type 0) → Store → Store → Type 0
OperandsKept Target m n = (q : Operand) → (Target q → ⊥) → value_of n q ≡ value_of m q

abbrev pub CellsKept : Store → Store → Type 0
CellsKept m n = (c : ℕ) → cell_of n c ≡ cell_of m c

-- the group of a place, and the channel in it
abbrev pub group_of : Operand → ℕ
group_of o = place_of o / 16

abbrev pub channel_of : Operand → ℕ
channel_of o = place_of o % 16

-- two places of a kind share a target: the same place, for steps the same chain
abbrev pub SameTarget : Kind → ℕ → ℕ → Type 0
SameTarget Input p q = p ≡ q
SameTarget Output p q = p ≡ q
SameTarget Marker p q = p ≡ q
SameTarget Step p q = p / 16 ≡ q / 16
SameTarget Constant p q = p ≡ q
SameTarget InputWord p q = p ≡ q
SameTarget OutputWord p q = p ≡ q
SameTarget MarkerWord p q = p ≡ q
SameTarget ConstantWord p q = p ≡ q
SameTarget MarkerDouble p q = p ≡ q
SameTarget ConstantDouble p q = p ≡ q

-- q is changed by a store in o
abbrev pub TargetOf : Operand → Operand → Type 0
TargetOf o q = (q.kind ≡ o.kind) × SameTarget o.kind (place_of o) (place_of q)

-- what the target of a store reads: a bit 0 or 1, a word or double limited;
-- a step that is set reads 1 and each other step of its chain 0, and 0 changes no chain; no other kind is written
abbrev pub ReadsBack : Kind → Store → Store → Operand → ℤ → Type 0
ReadsBack Input m n o v = n ≡ m
ReadsBack Output m n o v = value_of n o ≡ bit (truth v)
ReadsBack Marker m n o v = value_of n o ≡ bit (truth v)
ReadsBack Step m n o v =
    (truth v ≡ true → (q : Operand) → TargetOf o q → value_of n q ≡ bit (channel_of o == channel_of q))
    × (truth v ≡ false → n ≡ m)
ReadsBack Constant m n o v = n ≡ m
ReadsBack InputWord m n o v = n ≡ m
ReadsBack OutputWord m n o v = value_of n o ≡ limited_to Word v
ReadsBack MarkerWord m n o v = value_of n o ≡ limited_to Word v
ReadsBack ConstantWord m n o v = n ≡ m
ReadsBack MarkerDouble m n o v = value_of n o ≡ limited_to Double v
ReadsBack ConstantDouble m n o v = n ≡ m

-- v was stored in the operand o
pub record Stores (m n : Store) (o : Operand) (v : ℤ) : Type 0 where
  pub back : (e : Edition) → in_range e o ≡ true → ReadsBack o.kind m n o v
  pub operands : OperandsKept (TargetOf o) m n
  pub cells : CellsKept m n

-- v was stored in the history cell c
pub record StoresCell (m n : Store) (c : ℕ) (v : ℤ) : Type 0 where
  pub back : c < 1024 → cell_of n c ≡ v
  pub cells : (d : ℕ) → (d ≢ c) → cell_of n d ≡ cell_of m d
  pub operands : OperandsKept (λ _. ⊥) m n

-- what a loaded constant reads
abbrev pub ConstantBack : Kind → Store → Store → Operand → ℤ → Type 0
ConstantBack Input m n o v = n ≡ m
ConstantBack Output m n o v = n ≡ m
ConstantBack Marker m n o v = n ≡ m
ConstantBack Step m n o v = n ≡ m
ConstantBack Constant m n o v = n ≡ m
ConstantBack InputWord m n o v = n ≡ m
ConstantBack OutputWord m n o v = n ≡ m
ConstantBack MarkerWord m n o v = n ≡ m
ConstantBack ConstantWord m n o v = value_of n o ≡ limited_to Word v
ConstantBack MarkerDouble m n o v = n ≡ m
ConstantBack ConstantDouble m n o v = value_of n o ≡ limited_to Double v

pub record LoadsConstant (m n : Store) (o : Operand) (v : ℤ) : Type 0 where
  pub back : (e : Edition) → in_range e o ≡ true → ConstantBack o.kind m n o v
  pub operands : OperandsKept (TargetOf o) m n
  pub cells : CellsKept m n

abbrev pub OfGroup : Kind → ℕ → Operand → Type 0
OfGroup k group q = (q.kind ≡ k) × (group_of q ≡ group)

-- a word was loaded into the inputs of a group: channel 0 has its lowest bit
pub record LoadsInputs (m n : Store) (group w : ℕ) : Type 0 where
  pub back : (q : Operand) → group < 64 → OfGroup Input group q → value_of n q ≡ bit (bit_of w (channel_of q))
  pub operands : OperandsKept (OfGroup Input group) m n
  pub cells : CellsKept m n

abbrev pub InputWordAt : ℕ → Operand → Type 0
InputWordAt p q = (q.kind ≡ InputWord) × (place_of q ≡ p)

-- a word was loaded as an input word: it reads as the signed number of its bits, 8000h as -32767
pub record LoadsInputWord (m n : Store) (p w : ℕ) : Type 0 where
  pub back : (q : Operand) → p < 128 → InputWordAt p q → value_of n q ≡ corrected Word (signed w)
  pub operands : OperandsKept (InputWordAt p) m n
  pub cells : CellsKept m n

-- what an operand of a cleared group reads: K 00,01 is no cell, a chain has step 0 set
abbrev pub cleared_value : Kind → ℕ → ℤ
cleared_value Input p = pos 0
cleared_value Output p = pos 0
cleared_value Marker p = pos 0
cleared_value Step p = bit (0 == p % 16)
cleared_value Constant p = bit (p == 1)
cleared_value InputWord p = pos 0
cleared_value OutputWord p = pos 0
cleared_value MarkerWord p = pos 0
cleared_value ConstantWord p = pos 0
cleared_value MarkerDouble p = pos 0
cleared_value ConstantDouble p = pos 0

abbrev pub InGroups : Kind → ℕ → ℕ → Operand → Type 0
InGroups k first last q = (q.kind ≡ k) × (first ≤ group_of q) × (group_of q ≤ last)

-- the groups of a kind from first to last were cleared
pub record Clears (m n : Store) (k : Kind) (first last : ℕ) : Type 0 where
  pub back : (e : Edition) (q : Operand) → in_range e q ≡ true → InGroups k first last q → value_of n q ≡ cleared_value k (place_of q)
  pub operands : OperandsKept (InGroups k first last) m n
  pub cells : CellsKept m n

-- all history cells were cleared
pub record ClearsCells (m n : Store) : Type 0 where
  pub back : (c : ℕ) → cell_of n c ≡ pos 0
  pub operands : OperandsKept (λ _. ⊥) m n

abbrev pub output_at : ℕ → ℕ → Operand
output_at group channel = record { kind = Output; group = group; channel = channel }

abbrev pub output_word_at : ℕ → Operand
output_word_at p = record { kind = OutputWord; group = p / 16; channel = p % 16 }

-- the word that a group's outputs are told as has each channel's value as its bit
abbrev pub TellsOutputs : Store → ℕ → ℕ → Type 0
TellsOutputs m group w = (c : ℕ) → c < 16 → bit (bit_of w c) ≡ value_of m (output_at group c)

-- the word that an output word is told as, taken as a signed number, is its value
abbrev pub TellsWord : Store → ℕ → ℕ → Type 0
TellsWord m p w = signed w ≡ value_of m (output_word_at p)

-- the history cells were exchanged, as a block does that is lent them
pub record LendsHistory (m n : Store) (cells : List ℤ) : Type 0 where
  pub back : (c : ℕ) → cell_of n c ≡ slice_index_or cells c (pos 0)
  pub operands : OperandsKept (λ _. ⊥) m n
