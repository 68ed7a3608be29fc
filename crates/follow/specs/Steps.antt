-- Reading a list token by token: which token fits the one before, and what it adds to the list.
use Rattle.std.specs.Prelude.{ℕ, zero, suc, ◌-◌, Bool, true, false, cond, length, ℤ, pos, negsuc, Some, None, Option, nat_le}
use Rattle.operand.specs.declared.edition.Edition.{Edition}
use Rattle.operand.specs.declared.kind.Kind.{Kind}
use Rattle.operand.specs.declared.operand.Operand.{Operand}
use Rattle.operand.specs.Kinds.{size_of}
use Rattle.operand.specs.Codes.{operand_at}
use Rattle.constants.specs.Rules.{constant_fits, constant_kind, least, most}
use Rattle.catalogue.specs.declared.Block.{Block}
use Rattle.catalogue.specs.Blocks.{pins_of}
use Rattle.item.specs.declared.mnemonic.Form.{Form}
use Rattle.item.specs.declared.mnemonic.Mnemonic.{Mnemonic}
use Rattle.item.specs.declared.mnemonic.Mnemonic.TheVariants as Word
use Rattle.item.specs.declared.item.Item.{Item}
use Rattle.numeral.specs.Numerals.{Written, plain, minus, within}
use Rattle.token.specs.Tokens.{Tok, word, letters, block, define, number, pair, unknown}
use Rattle.follow.specs.declared.state.Asks.{Asks}
use Rattle.follow.specs.declared.state.Role.{Role}
use Rattle.follow.specs.declared.state.Role.TheVariants as For
use Rattle.follow.specs.declared.state.State.{State}
use Rattle.follow.specs.declared.state.Put.{Put}
use Rattle.follow.specs.declared.state.Step.{Step}

-- something is put, and the next token is asked for something
abbrev pub put_then : State → Put → Asks → Step
put_then s p a = record { put = p; state = record { asks = a; pins = s.pins; last = s.last } }

-- a token that only asks something of the next one
abbrev pub asking : State → Asks → Step
asking s a = put_then s Put.Nothing a

-- an item is complete
abbrev pub item_done : State → Item → Step
item_done s i = put_then s (Put.Item i) Asks.Entry

-- one pin less is to come
abbrev pub pin_done : State → Item → Step
pin_done s i = record { put = Put.Item i; state = record { asks = Asks.Entry; pins = s.pins - 1; last = s.last } }

-- an item is put, and more may follow it
abbrev pub item_then : State → Item → Asks → Step
item_then s i a = put_then s (Put.Item i) a

-- what a mnemonic begins
abbrev pub begun : State → Mnemonic → Step
begun s Word.Nop = item_done s Item.Nop
begun s (Word.Start t) = item_done s (Item.Start t)
begun s (Word.Open t) = item_done s (Item.Open t)
begun s Word.Close = item_done s Item.Close
begun s (Word.Operator o) = item_done s (Item.Operator o)
begun s (Word.Compare c) = item_done s (Item.Compare c)
begun s (Word.Assign f) = asking s (Asks.Target f)
begun s Word.EndIf = item_done s Item.EndIf
begun s Word.Call = item_then s (Item.Call None) Asks.CallNumber
begun s Word.Direct = asking s Asks.Direct
begun s Word.Mark = asking s Asks.Mark
begun s Word.End = item_then s Item.End Asks.Constant

-- a block's name: its pins are to come
abbrev pub named : State → Block → Step
named s b = record { put = Put.Item (Item.Kind b); state = record { asks = Asks.Entry; pins = length (pins_of b); last = s.last } }

-- where any item may begin
abbrev pub entry : State → Tok → Option Step
entry s (word m) = Some (begun s m)
entry s (letters k) = Some (asking s (Asks.Address For.Term k))
entry s (block b) = Some (named s b)
entry s define = None
entry s (number w) = None
entry s (pair g c) = None
entry s unknown = None

-- the number of a call: 0 to 999, without a minus
abbrev pub call_number : State → Written → Option Step
call_number s (plain n) = cond (nat_le n 999) (Some (put_then s (Put.CallNumber n) Asks.Entry)) None
call_number s (minus n) = None

-- after `!BA` a number may stand, else any item may begin
abbrev pub after_call : State → Tok → Option Step
after_call s (word m) = entry s (word m)
after_call s (letters k) = entry s (letters k)
after_call s (block b) = entry s (block b)
after_call s define = None
after_call s (number w) = call_number s w
after_call s (pair g c) = None
after_call s unknown = None

-- the letters that a token is
abbrev pub kind_in : Tok → Option Kind
kind_in (word m) = None
kind_in (letters k) = Some k
kind_in (block b) = None
kind_in define = None
kind_in (number w) = None
kind_in (pair g c) = None
kind_in unknown = None

-- the operand of a kind that a token names by group and channel
abbrev pub operand_in : Edition → Kind → Tok → Option Operand
operand_in e k (word m) = None
operand_in e k (letters l) = None
operand_in e k (block b) = None
operand_in e k define = None
operand_in e k (number w) = None
operand_in e k (pair g c) = operand_at e k g c
operand_in e k unknown = None

-- the number from low to high that a token is
abbrev pub value_in : ℤ → ℤ → Tok → Option ℤ
value_in low high (word m) = None
value_in low high (letters k) = None
value_in low high (block b) = None
value_in low high define = None
value_in low high (number w) = within low high (Some w)
value_in low high (pair g c) = None
value_in low high unknown = None

-- an assignment wants letters
abbrev pub target : State → Form → Option Kind → Option Step
target s f None = None
target s f (Some k) = Some (asking s (Asks.Address (For.Target f) k))

-- an operand is a pin while the block named last has pins to come
abbrev pub term : State → ℕ → Operand → Step
term s zero o = item_done s (Item.Operand o)
term s (suc n) o = pin_done s (Item.Pin o)

-- what an operand is read for
abbrev pub used : State → Role → Operand → Option Step
used s For.Term o = Some (term s s.pins o)
used s (For.Target f) o = Some (item_done s (Item.Assign f o))
used s For.Constant o = cond (constant_fits s.last o) (Some (asking s (Asks.Define o))) None

abbrev pub address : State → Role → Option Operand → Option Step
address s r None = None
address s r (Some o) = used s r o

-- a direct pin holds any word: its value from -32768 to 32767
abbrev pub word_bits : ℤ → ℕ
word_bits (pos n) = n
word_bits (negsuc n) = 65535 - n

abbrev pub direct : State → Option ℤ → Option Step
direct s None = None
direct s (Some z) = Some (pin_done s (Item.Direct (word_bits z)))

abbrev pub mark : State → Option ℤ → Option Step
mark s None = None
mark s (Some z) = Some (item_done s (Item.Mark (word_bits z)))

abbrev pub constant : State → Option Kind → Option Step
constant s None = None
constant s (Some k) = cond (constant_kind k) (Some (asking s (Asks.Address For.Constant k))) None

abbrev pub defined : State → Operand → Tok → Option Step
defined s o (word m) = None
defined s o (letters k) = None
defined s o (block b) = None
defined s o define = Some (asking s (Asks.Value o))
defined s o (number w) = None
defined s o (pair g c) = None
defined s o unknown = None

-- a constant is complete
abbrev pub constant_done : State → Operand → ℤ → Step
constant_done s o z = record { put = Put.Constant (record { operand = o; value = z }); state = record { asks = Asks.Constant; pins = s.pins; last = Some o } }

abbrev pub valued : State → Operand → Option ℤ → Option Step
valued s o None = None
valued s o (Some z) = Some (constant_done s o z)

-- the step that a token makes, if it fits
abbrev pub asked : Edition → State → Asks → Tok → Option Step
asked e s Asks.Entry t = entry s t
asked e s Asks.CallNumber t = after_call s t
asked e s (Asks.Target f) t = target s f (kind_in t)
asked e s (Asks.Address r k) t = address s r (operand_in e k t)
asked e s Asks.Direct t = direct s (value_in (negsuc 32767) (pos 32767) t)
asked e s Asks.Mark t = mark s (value_in (pos 0) (pos 999) t)
asked e s Asks.Constant t = constant s (kind_in t)
asked e s (Asks.Define o) t = defined s o t
asked e s (Asks.Value o) t = valued s o (value_in (least (size_of o.kind)) (most (size_of o.kind)) t)

abbrev pub next_step : Edition → State → Tok → Option Step
next_step e s t = asked e s s.asks t

-- whether the text may end here
abbrev pub may_end : Asks → Bool
may_end Asks.Entry = true
may_end Asks.CallNumber = true
may_end (Asks.Target f) = false
may_end (Asks.Address r k) = false
may_end Asks.Direct = false
may_end Asks.Mark = false
may_end Asks.Constant = true
may_end (Asks.Define o) = false
may_end (Asks.Value o) = false
