-- Which kind is a step.
use Rattle.std.specs.Prelude.{Bool, true, false}
use Rattle.operand.specs.declared.kind.Kind.{Kind}
use Rattle.operand.specs.declared.kind.Kind.TheVariants.{Input, Output, Marker, Step, Constant, InputWord, OutputWord, MarkerWord, ConstantWord, MarkerDouble, ConstantDouble}

abbrev pub is_step : Kind → Bool
is_step Input = false
is_step Output = false
is_step Marker = false
is_step Step = true
is_step Constant = false
is_step InputWord = false
is_step OutputWord = false
is_step MarkerWord = false
is_step ConstantWord = false
is_step MarkerDouble = false
is_step ConstantDouble = false
