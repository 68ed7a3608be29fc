use Rattle.std.proofs.Common.{◌≡◌, ◌≤◌, drop}
use Rattle.numeral.specs.Numerals.{natural, up_to}
use Rattle.numeral.proofs.Steps.{rest}
use Rattle.numeral.proofs.read_natural.Given as goal

abbrev pub invariant-loop-digit : goal.invariant-loop-digit
invariant-loop-digit l = (l.value ≤ l.limit) × (rest l.limit l.value (drop l.digit-index l.digits) ≡ up_to l.limit (natural l.digits))
