-- Question 6 as an automaton: what may come next in a list.
use Rattle.std.specs.Prelude.{ℕ, zero, suc, Bool, true, false, length, Some, None, Option}
use Rattle.catalogue.specs.declared.Block.{Block}
use Rattle.catalogue.specs.Blocks.{pins_of}
use Rattle.item.specs.declared.item.Item.{Item}
use Rattle.item.specs.declared.item.Item.TheVariants.{Nop, Start, Open, Close, Operand, Operator, Compare, Assign, EndIf, Call, Kind, Pin, Direct, Mark, End}
use Rattle.grammar.specs.declared.automaton.Side.{Side}
use Rattle.grammar.specs.declared.automaton.Side.TheVariants.{First, Joined, Compared}
use Rattle.grammar.specs.declared.automaton.Grammar.{Grammar}
use Rattle.grammar.specs.declared.automaton.Grammar.TheVariants.{Between, Term, After, Assigned, Named, Pins, Done}
use Rattle.rule.specs.Automata.{Automaton}

-- how many pins a call of the kind lists
abbrev pub pin_count : Block → ℕ
pin_count b = length (pins_of b)

abbrev pub waiting : ℕ → Grammar
waiting zero = Between
waiting (suc n) = Pins n

-- what may stand between sentences, calls and marks
abbrev pub begins : Item → Option Grammar
begins Nop = Some Between
begins (Start t) = Some (Term 0 First)
begins (Open t) = None
begins Close = None
begins (Operand o) = None
begins (Operator o) = None
begins (Compare c) = None
begins (Assign f o) = None
begins EndIf = None
begins (Call j) = Some Named
begins (Kind k) = None
begins (Pin o) = None
begins (Direct w) = None
begins (Mark m) = Some Between
begins End = Some Done

-- a term is due
abbrev pub due : ℕ → Side → Item → Option Grammar
due d s Nop = None
due d s (Start t) = None
due d s (Open t) = Some (Term (suc d) s)
due d s Close = None
due d s (Operand o) = Some (After d s false)
due d s (Operator o) = None
due d s (Compare c) = None
due d s (Assign f o) = None
due d s EndIf = None
due d s (Call j) = None
due d s (Kind k) = None
due d s (Pin o) = None
due d s (Direct w) = None
due d s (Mark m) = None
due d s End = None

-- an operator
abbrev pub joins : ℕ → Side → Option Grammar
joins zero First = Some (Term 0 Joined)
joins zero Joined = Some (Term 0 Joined)
joins zero Compared = None
joins (suc d) s = Some (Term (suc d) s)

-- a comparison: one, outside all brackets, in place of operators
abbrev pub compares : ℕ → Side → Option Grammar
compares zero First = Some (Term 0 Compared)
compares zero Joined = None
compares zero Compared = None
compares (suc d) s = None

-- a closing bracket: not behind NOPs
abbrev pub closes : ℕ → Side → Bool → Option Grammar
closes zero s n = None
closes (suc d) s true = None
closes (suc d) s false = Some (After d s false)

-- an assignment: outside all brackets
abbrev pub at_ground : ℕ → Grammar → Option Grammar
at_ground zero g = Some g
at_ground (suc d) g = None

-- a term has ended
abbrev pub further : ℕ → Side → Bool → Item → Option Grammar
further d s n Nop = Some (After d s true)
further d s n (Start t) = None
further d s n (Open t) = None
further d s n Close = closes d s n
further d s n (Operand o) = None
further d s n (Operator o) = joins d s
further d s n (Compare c) = compares d s
further d s n (Assign f o) = at_ground d Assigned
further d s n EndIf = at_ground d Between
further d s n (Call j) = None
further d s n (Kind k) = None
further d s n (Pin o) = None
further d s n (Direct w) = None
further d s n (Mark m) = None
further d s n End = None

-- behind an assignment
abbrev pub more : Item → Option Grammar
more Nop = Some Assigned
more (Start t) = Some (Term 0 First)
more (Open t) = None
more Close = None
more (Operand o) = None
more (Operator o) = None
more (Compare c) = None
more (Assign f o) = Some Assigned
more EndIf = Some Between
more (Call j) = Some Named
more (Kind k) = None
more (Pin o) = None
more (Direct w) = None
more (Mark m) = Some Between
more End = Some Done

-- behind the call
abbrev pub kind_due : Item → Option Grammar
kind_due Nop = None
kind_due (Start t) = None
kind_due (Open t) = None
kind_due Close = None
kind_due (Operand o) = None
kind_due (Operator o) = None
kind_due (Compare c) = None
kind_due (Assign f o) = None
kind_due EndIf = None
kind_due (Call j) = None
kind_due (Kind k) = Some (waiting (pin_count k))
kind_due (Pin o) = None
kind_due (Direct w) = None
kind_due (Mark m) = None
kind_due End = None

-- a pin is due, and n more
abbrev pub pin_due : ℕ → Item → Option Grammar
pin_due n Nop = None
pin_due n (Start t) = None
pin_due n (Open t) = None
pin_due n Close = None
pin_due n (Operand o) = None
pin_due n (Operator o) = None
pin_due n (Compare c) = None
pin_due n (Assign f o) = None
pin_due n EndIf = None
pin_due n (Call j) = None
pin_due n (Kind k) = None
pin_due n (Pin o) = Some (waiting n)
pin_due n (Direct w) = Some (waiting n)
pin_due n (Mark m) = None
pin_due n End = None

abbrev pub grammar_step : Grammar → Item → Option Grammar
grammar_step Between i = begins i
grammar_step (Term d s) i = due d s i
grammar_step (After d s n) i = further d s n i
grammar_step Assigned i = more i
grammar_step Named i = kind_due i
grammar_step (Pins n) i = pin_due n i
grammar_step Done i = None

abbrev pub done : Grammar → Bool
done Between = false
done (Term d s) = false
done (After d s n) = false
done Assigned = false
done Named = false
done (Pins n) = false
done Done = true

-- how many brackets are open
abbrev pub depth_of : Grammar → ℕ
depth_of Between = 0
depth_of (Term d s) = d
depth_of (After d s n) = d
depth_of Assigned = 0
depth_of Named = 0
depth_of (Pins n) = 0
depth_of Done = 0

abbrev pub grammar : Automaton Grammar
grammar = record { start = Between; step = grammar_step; ends = done }
