-- Question 9: assigned operands can be written, a step only under `=`.
use Rattle.std.specs.Prelude.{◌≡◌, true}
use Rattle.operand.specs.Codes.{may_write}
use Rattle.item.specs.declared.mnemonic.Form.TheVariants as Form
use Rattle.item.specs.declared.item.Item.{Item}
use Rattle.item.specs.declared.item.Item.TheVariants.{Nop, Start, Open, Close, Operand, Operator, Compare, Assign, EndIf, Call, Kind, Pin, Direct, Mark, End}
use Rattle.fitting.specs.Steps.{is_step}

abbrev pub Written : Item → Type 0
Written Nop = Unit {0}
Written (Start t) = Unit {0}
Written (Open t) = Unit {0}
Written Close = Unit {0}
Written (Operand o) = Unit {0}
Written (Operator o) = Unit {0}
Written (Compare c) = Unit {0}
Written (Assign f o) = (may_write o ≡ true) × (is_step o.kind ≡ true → f ≡ Form.Plain)
Written EndIf = Unit {0}
Written (Call n) = Unit {0}
Written (Kind b) = Unit {0}
Written (Pin o) = Unit {0}
Written (Direct w) = Unit {0}
Written (Mark m) = Unit {0}
Written End = Unit {0}
