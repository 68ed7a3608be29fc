-- A small list, and its image in numbers.
use Rattle.std.specs.Prelude.{◌≡◌, ℕ, List, [], ◌∷◌, pos, Some}
use Rattle.operand.specs.declared.edition.Edition.TheVariants.{Series90}
use Rattle.operand.specs.declared.operand.Operand.{Operand as AnyOperand}
use Rattle.operand.specs.declared.kind.Kind.{Kind as AnyKind}
use Rattle.operand.specs.declared.kind.Kind.TheVariants as Letters
use Rattle.catalogue.specs.declared.Block.TheVariants.{Esv}
use Rattle.item.specs.declared.item.Item.{Item}
use Rattle.item.specs.declared.item.Item.TheVariants.{Start, Operand, Assign, Call, Kind, Pin, End}
use Rattle.item.specs.declared.mnemonic.Turn.TheVariants as Turn
use Rattle.item.specs.declared.mnemonic.Form.TheVariants as Form
use Rattle.image.specs.Images.{words_of}
use Rattle.image.specs.declared.constant.Constant.{Constant}

abbrev at : AnyKind → ℕ → ℕ → AnyOperand
at k g c = record { kind = k; group = g; channel = c }

-- a call of the delay with the number 7, a start, an assignment
abbrev pub example_items : List Item
example_items =
    Call (Some 7)
    ∷ Kind Esv
    ∷ Pin (at Letters.Input 0 0)
    ∷ Pin (at Letters.ConstantDouble 0 1)
    ∷ Pin (at Letters.Output 2 0)
    ∷ Start Turn.Plain
    ∷ Operand (at Letters.Input 0 1)
    ∷ Assign Form.Plain (at Letters.Marker 1 0)
    ∷ End
    ∷ []

abbrev pub example_constants : List Constant
example_constants = record { operand = at Letters.ConstantDouble 0 1; value = pos 500 } ∷ []

abbrev pub example_words : List ℕ
example_words =
    40 ∷ 7 ∷ 41 ∷ 1 ∷ 42 ∷ 0 ∷ 42 ∷ 40961 ∷ 42 ∷ 4128 ∷ 1 ∷ 0 ∷ 8 ∷ 1 ∷ 30 ∷ 8208 ∷ 51 ∷ 0
    ∷ 40961 ∷ 500 ∷ 0
    ∷ 27 ∷ 9 ∷ 1 ∷ 2 ∷ 90 ∷ 44081
    ∷ []

abbrev pub ExampleHolds : Type 0
ExampleHolds = words_of Series90 example_items example_constants ≡ example_words
