-- Question 8: what fits a sentence by its type. The first operand gives the type; what stands before it is judged at it.
use Rattle.std.specs.Prelude.{Bool, true, false, cond, Some, None, Option}
use Rattle.item.specs.declared.item.Item.{Item}
use Rattle.item.specs.declared.item.Item.TheVariants.{Nop, Start, Open, Close, Operand, Operator, Compare, Assign, EndIf, Call, Kind, Pin, Direct, Mark, End}
use Rattle.operand.specs.declared.kind.Size.{Size}
use Rattle.operand.specs.declared.kind.Size.TheVariants.{Bit, Word, Double}
use Rattle.item.specs.declared.mnemonic.Turn.{Turn}
use Rattle.item.specs.declared.mnemonic.Form.{Form}
use Rattle.item.specs.declared.mnemonic.Operator.{Operator as Sign}
use Rattle.item.specs.declared.mnemonic.Operator.TheVariants.{And, AndNot, Or, OrNot, Add, Subtract, Multiply, MultiplyMinus, Divide, DivideMinus}
use Rattle.fitting.specs.declared.types.Types.{Types}
use Rattle.fitting.specs.declared.types.Types.TheVariants.{Idle, Pending, Bits, Words, Compared}
use Rattle.operand.specs.Kinds.{size_of}
use Rattle.rule.specs.Automata.{Automaton}

-- what N needs
abbrev pub bits_only : Types → Option Types
bits_only Idle = None
bits_only (Pending b w) = Some (Pending true w)
bits_only Bits = Some Bits
bits_only Words = None
bits_only Compared = None

-- what minus needs
abbrev pub words_only : Types → Option Types
words_only Idle = None
words_only (Pending b w) = Some (Pending b true)
words_only Bits = None
words_only Words = Some Words
words_only Compared = Some Compared

abbrev pub turned_types : Types → Turn → Option Types
turned_types s Turn.Plain = Some s
turned_types s Turn.Not = bits_only s
turned_types s Turn.Minus = words_only s

-- an operand: the first gives the type
abbrev pub operand_types : Types → Size → Option Types
operand_types Idle z = None
operand_types (Pending b w) Bit = cond w None (Some Bits)
operand_types (Pending b w) Word = cond b None (Some Words)
operand_types (Pending b w) Double = None
operand_types Bits Bit = Some Bits
operand_types Bits Word = None
operand_types Bits Double = None
operand_types Words Bit = None
operand_types Words Word = Some Words
operand_types Words Double = None
operand_types Compared Bit = None
operand_types Compared Word = Some Compared
operand_types Compared Double = None

abbrev pub in_bits : Types → Option Types
in_bits Idle = None
in_bits (Pending b w) = None
in_bits Bits = Some Bits
in_bits Words = None
in_bits Compared = None

abbrev pub in_words : Types → Option Types
in_words Idle = None
in_words (Pending b w) = None
in_words Bits = None
in_words Words = Some Words
in_words Compared = Some Compared

abbrev pub operator_types : Types → Sign → Option Types
operator_types s And = in_bits s
operator_types s AndNot = in_bits s
operator_types s Or = in_bits s
operator_types s OrNot = in_bits s
operator_types s Add = in_words s
operator_types s Subtract = in_words s
operator_types s Multiply = in_words s
operator_types s MultiplyMinus = in_words s
operator_types s Divide = in_words s
operator_types s DivideMinus = in_words s

-- the result's type
abbrev pub result : Types → Option Size
result Idle = None
result (Pending b w) = None
result Bits = Some Bit
result Words = Some Word
result Compared = Some Bit

-- the result's type, the form and the target fit
abbrev pub stored : Option Size → Form → Size → Bool
stored None f z = false
stored (Some Bit) Form.Plain Bit = true
stored (Some Bit) Form.Not Bit = true
stored (Some Bit) Form.Minus Bit = false
stored (Some Bit) Form.Set Bit = true
stored (Some Bit) Form.Reset Bit = true
stored (Some Bit) f Word = false
stored (Some Bit) f Double = false
stored (Some Word) Form.Plain Word = true
stored (Some Word) Form.Not Word = false
stored (Some Word) Form.Minus Word = true
stored (Some Word) Form.Set Word = false
stored (Some Word) Form.Reset Word = false
stored (Some Word) f Bit = false
stored (Some Word) f Double = false
stored (Some Double) f z = false

abbrev pub assign_types : Types → Form → Size → Option Types
assign_types s f z = cond (stored (result s) f z) (Some s) None

abbrev pub is_bit : Option Size → Bool
is_bit None = false
is_bit (Some Bit) = true
is_bit (Some Word) = false
is_bit (Some Double) = false

abbrev pub compare_types : Types → Option Types
compare_types Idle = None
compare_types (Pending b w) = None
compare_types Bits = None
compare_types Words = Some Compared
compare_types Compared = None

abbrev pub type_step : Types → Item → Option Types
type_step s Nop = Some s
type_step s (Start t) = turned_types (Pending false false) t
type_step s (Open t) = turned_types s t
type_step s Close = Some s
type_step s (Operand o) = operand_types s (size_of o.kind)
type_step s (Operator o) = operator_types s o
type_step s (Compare c) = compare_types s
type_step s (Assign f o) = assign_types s f (size_of o.kind)
type_step s EndIf = cond (is_bit (result s)) (Some Idle) None
type_step s (Call n) = Some Idle
type_step s (Kind k) = Some Idle
type_step s (Pin o) = Some Idle
type_step s (Direct w) = Some Idle
type_step s (Mark m) = Some Idle
type_step s End = Some Idle

abbrev pub types : Automaton Types
types = record { start = Idle; step = type_step; ends = λ _. true }
