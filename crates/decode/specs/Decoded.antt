-- The item that a number and an argument stand for: it is known, and its argument in range.
use Rattle.std.specs.Prelude.{◌≡◌, ℕ, ◌≤◌, true, cond, Some, None, Option, ◌==◌, ◌≢◌, nat_lt}
use Rattle.operand.specs.declared.edition.Edition.{Edition}
use Rattle.operand.specs.declared.operand.Operand.{Operand as AnyOperand}
use Rattle.operand.specs.Codes.{decoded, in_range}
use Rattle.catalogue.specs.declared.Block.{Block}
use Rattle.catalogue.specs.Blocks as Blocks
use Rattle.item.specs.declared.mnemonic.Form.{Form}
use Rattle.item.specs.declared.mnemonic.Mnemonic.{Mnemonic}
use Rattle.item.specs.declared.mnemonic.Mnemonic.TheVariants as Word
use Rattle.item.specs.Mnemonics.{mnemonic_numbered}
use Rattle.item.specs.declared.item.Item.{Item}
use Rattle.item.specs.declared.item.Item.TheVariants.{Nop, Start, Open, Close, Operand, Operator, Compare, Assign, EndIf, Call, Kind, Pin, Direct, Mark, End}
use Rattle.item.specs.Items.{number_of, argument_of}

-- an item without an argument has 0
abbrev pub alone : Item → ℕ → Option Item
alone i a = cond (a == 0) (Some i) None

abbrev pub operand_item : Option AnyOperand → Option Item
operand_item None = None
operand_item (Some o) = Some (Operand o)

abbrev pub pin_item : Option AnyOperand → Option Item
pin_item None = None
pin_item (Some o) = Some (Pin o)

abbrev pub assign_item : Form → Option AnyOperand → Option Item
assign_item f None = None
assign_item f (Some o) = Some (Assign f o)

abbrev pub kind_item : Option Block → Option Item
kind_item None = None
kind_item (Some b) = Some (Kind b)

-- a call number from 0 to 999, or 1000 for none
abbrev pub call_decoded : ℕ → Option Item
call_decoded a = cond (nat_lt a 1000) (Some (Call (Some a))) (cond (a == 1000) (Some (Call None)) None)

abbrev pub mark_decoded : ℕ → Option Item
mark_decoded a = cond (nat_lt a 1000) (Some (Mark a)) None

-- an item that begins with a mnemonic
abbrev pub word_decoded : Edition → Mnemonic → ℕ → Option Item
word_decoded e Word.Nop a = alone Nop a
word_decoded e (Word.Start t) a = alone (Start t) a
word_decoded e (Word.Open t) a = alone (Open t) a
word_decoded e Word.Close a = alone Close a
word_decoded e (Word.Operator o) a = alone (Operator o) a
word_decoded e (Word.Compare c) a = alone (Compare c) a
word_decoded e (Word.Assign f) a = assign_item f (decoded e a)
word_decoded e Word.EndIf a = alone EndIf a
word_decoded e Word.Call a = call_decoded a
word_decoded e Word.Direct a = Some (Direct a)
word_decoded e Word.Mark a = mark_decoded a
word_decoded e Word.End a = alone End a

-- an item that is written without a mnemonic
abbrev pub nameless_decoded : Edition → ℕ → ℕ → Option Item
nameless_decoded e n a =
    cond (n == 8) (operand_item (decoded e a)) (
    cond (n == 41) (kind_item (Blocks.block_numbered e a)) (
    cond (n == 42) (pin_item (decoded e a)) (
    None)))

abbrev pub by_mnemonic : Edition → ℕ → ℕ → Option Mnemonic → Option Item
by_mnemonic e n a None = nameless_decoded e n a
by_mnemonic e n a (Some m) = word_decoded e m a

abbrev pub item_decoded : Edition → ℕ → ℕ → Option Item
item_decoded e n a = by_mnemonic e n a (mnemonic_numbered n)

-- an item that the edition knows, with an argument in its range
abbrev pub Lawful : Edition → Item → Type 0
Lawful e Nop = Unit {0}
Lawful e (Start t) = Unit {0}
Lawful e (Open t) = Unit {0}
Lawful e Close = Unit {0}
Lawful e (Operand o) = in_range e o ≡ true
Lawful e (Operator o) = Unit {0}
Lawful e (Compare c) = Unit {0}
Lawful e (Assign f o) = in_range e o ≡ true
Lawful e EndIf = Unit {0}
Lawful e (Call None) = Unit {0}
Lawful e (Call (Some n)) = n ≤ 999
Lawful e (Kind b) = Blocks.block_numbered e (Blocks.number_of b) ≡ Some b
Lawful e (Pin o) = in_range e o ≡ true
Lawful e (Direct w) = Unit {0}
Lawful e (Mark m) = m ≤ 999
Lawful e End = Unit {0}

-- a number and an argument stand for an item exactly when it is lawful and has them
abbrev pub Decodes : Edition → ℕ → ℕ → Option Item → Type 0
Decodes e n a (Some i) = Lawful e i × (number_of i ≡ n) × (argument_of i ≡ a)
Decodes e n a None = (i : Item) → Lawful e i → number_of i ≡ n → argument_of i ≢ a
