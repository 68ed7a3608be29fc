-- Question 9: assigned operands can be written, a step only under `=`.
use Rattle.std.specs.Prelude.{Bool, true, cond, not, ◌&&◌, Some, None, Option}
use Rattle.item.specs.declared.mnemonic.Form.{Form}
use Rattle.operand.specs.declared.operand.Operand.{Operand as Place}
use Rattle.item.specs.declared.item.Item.{Item}
use Rattle.item.specs.declared.item.Item.TheVariants.{Nop, Start, Open, Close, Operand, Operator, Compare, Assign, EndIf, Call, Kind, Pin, Direct, Mark, End}
use Rattle.fitting.specs.declared.targets.Targets.{Targets}
use Rattle.operand.specs.Codes.{may_write}
use Rattle.fitting.specs.Steps.{is_step}
use Rattle.rule.specs.Automata.{Automaton}

-- writable, a step only under =
abbrev pub takes : Form → Place → Bool
takes Form.Plain o = may_write o
takes Form.Not o = may_write o && not (is_step o.kind)
takes Form.Minus o = may_write o && not (is_step o.kind)
takes Form.Set o = may_write o && not (is_step o.kind)
takes Form.Reset o = may_write o && not (is_step o.kind)

-- assigned operands
abbrev pub target_step : Targets → Item → Option Targets
target_step s Nop = Some s
target_step s (Start t) = Some s
target_step s (Open t) = Some s
target_step s Close = Some s
target_step s (Operand o) = Some s
target_step s (Operator o) = Some s
target_step s (Compare c) = Some s
target_step s (Assign f o) = cond (takes f o) (Some s) None
target_step s EndIf = Some s
target_step s (Call j) = Some s
target_step s (Kind k) = Some s
target_step s (Pin o) = Some s
target_step s (Direct w) = Some s
target_step s (Mark m) = Some s
target_step s End = Some s

abbrev pub targets : Automaton Targets
targets = record { start = record {}; step = target_step; ends = λ _. true }
