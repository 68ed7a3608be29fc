-- Which mnemonic, operand letters or block a run of bytes spells.
use Rattle.std.specs.Prelude.{ℕ, zero, suc, cond, List, Some, None, Option}
use Rattle.std.specs.Str.{bytes_eq}
use Rattle.operand.specs.declared.edition.Edition.{Edition}
use Rattle.operand.specs.declared.kind.Kind.{Kind}
use Rattle.operand.specs.Kinds.{kind_numbered, letters_of}
use Rattle.catalogue.specs.declared.Block.{Block}
use Rattle.catalogue.specs.Blocks as Blocks
use Rattle.item.specs.declared.mnemonic.Mnemonic.{Mnemonic}
use Rattle.item.specs.Mnemonics as Mnemonics

-- the entry, where it is there and is spelt so; else what else there is
abbrev pub if_spelt : {T : Type 0} → (T → List ℕ) → List ℕ → Option T → Option T → Option T
if_spelt spelling bs None other = other
if_spelt spelling bs (Some t) other = cond (bytes_eq bs (spelling t)) (Some t) other

-- of the entries with numbers below n, the last one that is spelt so
unfoldable pub spelt_below : {T : Type 0} → (ℕ → Option T) → (T → List ℕ) → List ℕ → ℕ → Option T
spelt_below entry spelling bs zero = None
spelt_below entry spelling bs (suc n) = if_spelt spelling bs (entry n) (spelt_below entry spelling bs n)

abbrev pub mnemonic_spelt : List ℕ → Option Mnemonic
mnemonic_spelt bs = spelt_below Mnemonics.mnemonic_numbered Mnemonics.name_of bs 52

abbrev pub kind_spelt : List ℕ → Option Kind
kind_spelt bs = spelt_below kind_numbered letters_of bs 11

abbrev pub block_spelt : Edition → List ℕ → Option Block
block_spelt e bs = spelt_below (Blocks.block_numbered e) Blocks.name_of bs 9

-- the entry with number n, where it is there and is spelt so
abbrev pub spelt_at : {T : Type 0} → (ℕ → Option T) → (T → List ℕ) → List ℕ → ℕ → Option T
spelt_at entry spelling bs n = if_spelt spelling bs (entry n) None
