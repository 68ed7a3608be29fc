-- Question 7: at most 15 brackets are open at once.
use Rattle.std.specs.Prelude.{ℕ, ◌+◌, ◌-◌, true, cond, Some, None, Option, nat_lt}
use Rattle.item.specs.declared.item.Item.{Item}
use Rattle.item.specs.declared.item.Item.TheVariants.{Nop, Start, Open, Close, Operand, Operator, Compare, Assign, EndIf, Call, Kind, Pin, Direct, Mark, End}
use Rattle.fitting.specs.declared.depth.Depth.{Depth}
use Rattle.rule.specs.Automata.{Automaton}

abbrev pub deep : ℕ → Depth
deep n = record { brackets = n }

-- at most 15 brackets are open at once
abbrev pub depth_step : Depth → Item → Option Depth
depth_step d Nop = Some d
depth_step d (Start t) = Some (deep 0)
depth_step d (Open t) = cond (nat_lt d.brackets 15) (Some (deep (d.brackets + 1))) None
depth_step d Close = Some (deep (d.brackets - 1))
depth_step d (Operand o) = Some d
depth_step d (Operator o) = Some d
depth_step d (Compare c) = Some d
depth_step d (Assign f o) = Some d
depth_step d EndIf = Some d
depth_step d (Call n) = Some (deep 0)
depth_step d (Kind k) = Some d
depth_step d (Pin o) = Some d
depth_step d (Direct w) = Some d
depth_step d (Mark m) = Some (deep 0)
depth_step d End = Some (deep 0)

abbrev pub depths : Automaton Depth
depths = record { start = deep 0; step = depth_step; ends = λ _. true }
