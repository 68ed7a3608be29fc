-- A mnemonic and its number.
use Rattle.std.proofs.Common.{◌≡◌, ℕ, Some, refl, arith}
use Rattle.std.proofs.lemmas.Bool.Decides.{nat_tests}
use Rattle.item.specs.declared.mnemonic.Mnemonic.{Mnemonic}
use Rattle.item.specs.declared.mnemonic.Mnemonic.TheVariants.{Nop, Start, Open, Close, Operator, Compare, Assign, EndIf, Call, Direct, Mark, End}
use Rattle.item.specs.declared.mnemonic.Turn.TheVariants as Turn
use Rattle.item.specs.declared.mnemonic.Operator.TheVariants as Op
use Rattle.item.specs.declared.mnemonic.Comparison.TheVariants as Than
use Rattle.item.specs.declared.mnemonic.Form.TheVariants as Form
use Rattle.item.specs.Mnemonics.{number_of, mnemonic_numbered}

pub word_again : (m : Mnemonic) → mnemonic_numbered (number_of m) ≡ Some m
word_again Nop = refl
word_again (Start Turn.Plain) = refl
word_again (Start Turn.Not) = refl
word_again (Start Turn.Minus) = refl
word_again (Open Turn.Plain) = refl
word_again (Open Turn.Not) = refl
word_again (Open Turn.Minus) = refl
word_again Close = refl
word_again (Operator Op.And) = refl
word_again (Operator Op.AndNot) = refl
word_again (Operator Op.Or) = refl
word_again (Operator Op.OrNot) = refl
word_again (Operator Op.Add) = refl
word_again (Operator Op.Subtract) = refl
word_again (Operator Op.Multiply) = refl
word_again (Operator Op.MultiplyMinus) = refl
word_again (Operator Op.Divide) = refl
word_again (Operator Op.DivideMinus) = refl
word_again (Compare Than.Greater) = refl
word_again (Compare Than.Less) = refl
word_again (Compare Than.AtLeast) = refl
word_again (Compare Than.Equal) = refl
word_again (Compare Than.Unequal) = refl
word_again (Compare Than.AtMost) = refl
word_again (Assign Form.Plain) = refl
word_again (Assign Form.Not) = refl
word_again (Assign Form.Minus) = refl
word_again (Assign Form.Set) = refl
word_again (Assign Form.Reset) = refl
word_again EndIf = refl
word_again Call = refl
word_again Direct = refl
word_again Mark = refl
word_again End = refl

pub word_back : (n : ℕ) (m : Mnemonic) → mnemonic_numbered n ≡ Some m → number_of m ≡ n
word_back n m h = grind (arith, nat_tests)
