use Rattle.std.proofs.Common.{length, refl, ap, arith}
use Rattle.token.proofs.Steps.{part_found}
use Rattle.token.proofs.cut.PartsIterator.next.Goals as goal

pub returns-in_err-place-clause-steps : goal.returns-in_err-place-clause-steps
returns-in_err-place-clause-steps c =
    let none = c.in_err-place.ensures in
    rw c.from_residual.ensures (none, none)

pub returns : goal.returns
returns c =
    let p = c.args.self.now in
    let place = c.in_ok-place.place in
    let begins = c.in_ok-place.ensures in
    let found = part_found p.text.now _ p.from place c.run_end-self.result begins.0 begins.1 begins.2 begins.3 c.run_end-self.ensures.value refl in
    record { steps = found.0; goes = record { on = λ _. (found.2, tt, omega (arith, ap length found.0)); keeps = found.2; rests = λ u. u } }
