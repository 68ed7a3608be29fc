-- How items and constants are written.
use Rattle.std.specs.Prelude.{ℕ, List, ◌∷◌, ◌++◌, Some, None, codes, decimal, Option}
use Rattle.std.specs.Fmt.{signed_decimal}
use Rattle.operand.specs.declared.operand.Operand.{Operand as Place}
use Rattle.operand.specs.Kinds.{letters_of}
use Rattle.catalogue.specs.Blocks as Blocks
use Rattle.item.specs.declared.item.Item.{Item}
use Rattle.item.specs.declared.item.Item.TheVariants.{Nop, Start, Open, Close, Operand, Operator, Compare, Assign, EndIf, Call, Kind, Pin, Direct, Mark, End}
use Rattle.item.specs.declared.mnemonic.Mnemonic.TheVariants as Word
use Rattle.item.specs.Mnemonics.{name_of}
use Rattle.image.specs.declared.constant.Constant.{Constant}
use Rattle.constants.specs.Decoded.{word_value}
use Rattle.lay.specs.Digits.{two_digits}

-- one blank between two tokens
abbrev pub beside : List ℕ → List ℕ → List ℕ
beside a b = a ++ (32 ∷ b)

-- group and channel, with two digits at least
abbrev pub pair_text : Place → List ℕ
pair_text o = two_digits o.group ++ (44 ∷ two_digits o.channel)

abbrev pub operand_text : Place → List ℕ
operand_text o = beside (letters_of o.kind) (pair_text o)

-- a call without a number is written without one
abbrev pub call_text : Option ℕ → List ℕ
call_text None = name_of Word.Call
call_text (Some n) = beside (name_of Word.Call) (decimal n)

abbrev pub item_text : Item → List ℕ
item_text Nop = name_of Word.Nop
item_text (Start t) = name_of (Word.Start t)
item_text (Open t) = name_of (Word.Open t)
item_text Close = name_of Word.Close
item_text (Operand o) = operand_text o
item_text (Operator o) = name_of (Word.Operator o)
item_text (Compare c) = name_of (Word.Compare c)
item_text (Assign f o) = beside (name_of (Word.Assign f)) (operand_text o)
item_text EndIf = name_of Word.EndIf
item_text (Call n) = call_text n
item_text (Kind b) = Blocks.name_of b
item_text (Pin o) = operand_text o
item_text (Direct w) = beside (name_of Word.Direct) (signed_decimal (word_value w))
item_text (Mark m) = beside (name_of Word.Mark) (decimal m)
item_text End = name_of Word.End

abbrev pub constant_text : Constant → List ℕ
constant_text c = operand_text c.operand ++ (codes " := " ++ signed_decimal c.value)
