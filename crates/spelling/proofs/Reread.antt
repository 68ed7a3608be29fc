-- The rule of the spellings, by computing, and what is read back.
use Rattle.std.proofs.Common.{◌≡◌, ℕ, zero, suc, Bool, true, false, cond, List, Some, None, Option, refl, arith}
use Rattle.std.specs.Str.{bytes_eq}
use Rattle.std.proofs.lemmas.Slice.Eq.{bytes_eq-Decides}
use Rattle.operand.specs.declared.edition.Edition.TheVariants.{Series90}
use Rattle.operand.specs.declared.kind.Kind.{Kind}
use Rattle.operand.specs.declared.kind.Kind.TheVariants as K
use Rattle.operand.specs.Kinds.{kind_numbered, letters_of}
use Rattle.catalogue.specs.declared.Block.{Block}
use Rattle.catalogue.specs.declared.Block.TheVariants as B
use Rattle.catalogue.specs.Blocks as Blocks
use Rattle.item.specs.declared.mnemonic.Mnemonic.{Mnemonic}
use Rattle.item.specs.declared.mnemonic.Mnemonic.TheVariants.{Nop, Start, Open, Close, Operator, Compare, Assign, EndIf, Call, Direct, Mark, End}
use Rattle.item.specs.declared.mnemonic.Turn.TheVariants as Turn
use Rattle.item.specs.declared.mnemonic.Operator.TheVariants as Op
use Rattle.item.specs.declared.mnemonic.Comparison.TheVariants as Than
use Rattle.item.specs.declared.mnemonic.Form.TheVariants as Form
use Rattle.item.specs.Mnemonics as Mnemonics
use Rattle.spelling.specs.Spellings.{if_spelt, spelt_below, mnemonic_spelt, kind_spelt, block_spelt}
use Rattle.spelling.specs.Rule.{Rule, Back, Only}

pub rule : Rule
rule = refl

mnemonics_back : (m : Mnemonic) → mnemonic_spelt (Mnemonics.name_of m) ≡ Some m
unfolding spelt_below
mnemonics_back Nop = refl
mnemonics_back (Start Turn.Plain) = refl
mnemonics_back (Start Turn.Not) = refl
mnemonics_back (Start Turn.Minus) = refl
mnemonics_back (Open Turn.Plain) = refl
mnemonics_back (Open Turn.Not) = refl
mnemonics_back (Open Turn.Minus) = refl
mnemonics_back Close = refl
mnemonics_back (Operator Op.And) = refl
mnemonics_back (Operator Op.AndNot) = refl
mnemonics_back (Operator Op.Or) = refl
mnemonics_back (Operator Op.OrNot) = refl
mnemonics_back (Operator Op.Add) = refl
mnemonics_back (Operator Op.Subtract) = refl
mnemonics_back (Operator Op.Multiply) = refl
mnemonics_back (Operator Op.MultiplyMinus) = refl
mnemonics_back (Operator Op.Divide) = refl
mnemonics_back (Operator Op.DivideMinus) = refl
mnemonics_back (Compare Than.Greater) = refl
mnemonics_back (Compare Than.Less) = refl
mnemonics_back (Compare Than.AtLeast) = refl
mnemonics_back (Compare Than.Equal) = refl
mnemonics_back (Compare Than.Unequal) = refl
mnemonics_back (Compare Than.AtMost) = refl
mnemonics_back (Assign Form.Plain) = refl
mnemonics_back (Assign Form.Not) = refl
mnemonics_back (Assign Form.Minus) = refl
mnemonics_back (Assign Form.Set) = refl
mnemonics_back (Assign Form.Reset) = refl
mnemonics_back EndIf = refl
mnemonics_back Call = refl
mnemonics_back Direct = refl
mnemonics_back Mark = refl
mnemonics_back End = refl

kinds_back : (k : Kind) → kind_spelt (letters_of k) ≡ Some k
unfolding spelt_below
kinds_back K.Input = refl
kinds_back K.Output = refl
kinds_back K.Marker = refl
kinds_back K.Step = refl
kinds_back K.Constant = refl
kinds_back K.InputWord = refl
kinds_back K.OutputWord = refl
kinds_back K.MarkerWord = refl
kinds_back K.ConstantWord = refl
kinds_back K.MarkerDouble = refl
kinds_back K.ConstantDouble = refl

blocks_back : (b : Block) → block_spelt Series90 (Blocks.name_of b) ≡ Some b
unfolding spelt_below
blocks_back B.Esv = refl
blocks_back B.Moa = refl
blocks_back B.RisingEdge = refl
blocks_back B.Ctud = refl
blocks_back B.Muldi = refl
blocks_back B.Zuwd = refl
blocks_back B.Spbm = refl

pub back : Back
back = record { mnemonics = mnemonics_back; kinds = kinds_back; blocks = blocks_back }

module _ {T : Type 0} (entry : ℕ → Option T) (spelling : T → List ℕ) (bs : List ℕ) where
  only_if : (o other : Option T) (t : T) → (other ≡ Some t → bs ≡ spelling t) → if_spelt spelling bs o other ≡ Some t → bs ≡ spelling t
  only_if None other t k h = k h
  only_if (Some u) other t k h = by (bytes_eq bs (spelling u)) (bytes_eq-Decides bs (spelling u)).0 h
    where
      by : (b : Bool) → (b ≡ true → bs ≡ spelling u) → cond b (Some u) other ≡ Some t → bs ≡ spelling t
      by true f e = let same : bs ≡ spelling u = f refl in grind arith
      by false f e = k e

  only_below : (n : ℕ) (t : T) → spelt_below entry spelling bs n ≡ Some t → bs ≡ spelling t
  unfolding spelt_below
  only_below zero t h = grind arith
  only_below (suc n) t h = only_if (entry n) (spelt_below entry spelling bs n) t (only_below n t) h

pub only : Only
only = record {
  mnemonics = λ bs m. only_below Mnemonics.mnemonic_numbered Mnemonics.name_of bs 52 m;
  kinds = λ bs k. only_below kind_numbered letters_of bs 11 k;
  blocks = λ bs b. only_below (Blocks.block_numbered Series90) Blocks.name_of bs 9 b;
}
