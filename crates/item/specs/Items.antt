-- The items of a list: the number and the argument of each.
use Rattle.std.specs.Prelude.{◌≡◌, ℕ, cond, Some, None, Option, Result, ◌==◌, ok_or}
use Rattle.operand.specs.Codes.{code_of}
use Rattle.catalogue.specs.Blocks.{cells_of}
use Rattle.catalogue.specs.Blocks as Blocks
use Rattle.item.specs.Mnemonics as Mnemonics
use Rattle.item.specs.declared.mnemonic.Mnemonic.TheVariants as Word
use Rattle.item.specs.declared.item.Nameless.{Nameless}
use Rattle.item.specs.declared.item.Nameless.TheVariants as Without
use Rattle.item.specs.declared.item.UnknownNameless.{UnknownNameless}
use Rattle.item.specs.declared.item.Item.{Item}
use Rattle.item.specs.declared.item.Item.TheVariants.{Nop, Start, Open, Close, Operand, Operator, Compare, Assign, EndIf, Call, Kind, Pin, Direct, Mark, End}

-- the items that a text writes without a mnemonic, each with its number
abbrev pub nameless_number : Nameless → ℕ
nameless_number Without.Operand = 8
nameless_number Without.Kind = 41
nameless_number Without.Pin = 42

abbrev pub nameless_numbered : ℕ → Option Nameless
nameless_numbered n =
    cond (n == 8) (Some Without.Operand) (
    cond (n == 41) (Some Without.Kind) (
    cond (n == 42) (Some Without.Pin) (
    None)))

-- the one of them with this number, or the number where none has it
abbrev pub IsNamelessNumbered : ℕ → Result Nameless UnknownNameless → Type 0
IsNamelessNumbered n r = r ≡ ok_or (nameless_numbered n) (record { 0 = n })

abbrev pub number_of : Item → ℕ
number_of Nop = Mnemonics.number_of Word.Nop
number_of (Start t) = Mnemonics.number_of (Word.Start t)
number_of (Open t) = Mnemonics.number_of (Word.Open t)
number_of Close = Mnemonics.number_of Word.Close
number_of (Operand o) = nameless_number Without.Operand
number_of (Operator o) = Mnemonics.number_of (Word.Operator o)
number_of (Compare c) = Mnemonics.number_of (Word.Compare c)
number_of (Assign f o) = Mnemonics.number_of (Word.Assign f)
number_of EndIf = Mnemonics.number_of Word.EndIf
number_of (Call n) = Mnemonics.number_of Word.Call
number_of (Kind b) = nameless_number Without.Kind
number_of (Pin o) = nameless_number Without.Pin
number_of (Direct w) = Mnemonics.number_of Word.Direct
number_of (Mark m) = Mnemonics.number_of Word.Mark
number_of End = Mnemonics.number_of Word.End

-- a call without a number has 1000
abbrev pub call_argument : Option ℕ → ℕ
call_argument None = 1000
call_argument (Some n) = n

abbrev pub argument_of : Item → ℕ
argument_of Nop = 0
argument_of (Start t) = 0
argument_of (Open t) = 0
argument_of Close = 0
argument_of (Operand o) = code_of o
argument_of (Operator o) = 0
argument_of (Compare c) = 0
argument_of (Assign f o) = code_of o
argument_of EndIf = 0
argument_of (Call n) = call_argument n
argument_of (Kind b) = Blocks.number_of b
argument_of (Pin o) = code_of o
argument_of (Direct w) = w
argument_of (Mark m) = m
argument_of End = 0

-- the history cells that an item asks for: those of the block kind that it names
abbrev pub item_cells : Item → ℕ
item_cells Nop = 0
item_cells (Start t) = 0
item_cells (Open t) = 0
item_cells Close = 0
item_cells (Operand o) = 0
item_cells (Operator o) = 0
item_cells (Compare c) = 0
item_cells (Assign f o) = 0
item_cells EndIf = 0
item_cells (Call n) = 0
item_cells (Kind b) = cells_of b
item_cells (Pin o) = 0
item_cells (Direct w) = 0
item_cells (Mark m) = 0
item_cells End = 0
