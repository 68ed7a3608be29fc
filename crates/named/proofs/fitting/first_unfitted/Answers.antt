use Rattle.std.proofs.Common.{◌≡◌, ◌/◌, length, Ok, Err, Result, MatchResult, sym, ap, ◌∙◌, subst, arith}
use Rattle.std.proofs.lemmas.Result.{err_from_is_err_and}
use Rattle.decode.specs.Words.{items_from}
use Rattle.decode.proofs.Places.{item_here, items_end}
use Rattle.plant.specs.declared.fault.Unfitted.{Unfitted}
use Rattle.named.specs.Fitting.{AllFit, FirstUnfitted, fit_named}
use Rattle.named.specs.Naming.{known_point}
use Rattle.named.proofs.Walk.{pinned, one_fits, one_unfit}
use Rattle.named.proofs.fitting.first_unfitted.Goals as goal

pub loop-place-preserved : goal.loop-place-preserved
loop-place-preserved g c =
    let e = c.args.items.edition in
    let ws = c.args.items.words.now in
    let m = g.P.Plant.meaning c.args.plant.now in
    let steps = c.in-Some.ensures.steps in
    let walk = c.loop-place.invariant.walk in
    let here = item_here e ws _ _ _ c.in-Some.item walk steps.0 in
    record {
      walk = here.2 ∙ ap (items_from e ws) (sym steps.2);
      fit = subst (AllFit m e ws) (sym steps.2) (one_fits m g.P.Plant.layer e ws _ c.in-Some.place _ _ c.in-Some.item walk steps.0 steps.1 c.loop-place.invariant.fit c.in_ok-check_item.ensures);
    }

pub returns-in_err-check_item : goal.returns-in_err-check_item
returns-in_err-check_item g c =
    let e = c.args.items.edition in
    let ws = c.args.items.words.now in
    let m = g.P.Plant.meaning c.args.plant.now in
    let steps = c.in-Some.ensures.steps in
    let (u, a, b) = err_from_is_err_and c.from_residual.result c.from_residual.ensures.1 in
    let unfit : Err u ≡ fit_named m g.P.Plant.layer c.in-Some.place (known_point c.in-Some.item) = ap (λ (v : Unfitted). Err v) b ∙ c.in_err-check_item.ensures in
    let found = one_unfit m g.P.Plant.layer e ws _ c.in-Some.place _ _ c.in-Some.item c.loop-place.invariant.walk steps.0 steps.1 c.loop-place.invariant.fit u unfit in
    let first = subst (λ (r : Result (Unit {0}) Unfitted). MatchResult r (λ _. AllFit m e ws (length ws / 2)) (FirstUnfitted m g.P.Plant.layer e ws (length ws / 2))) (sym a) found in
    record { answer = pinned m g.P.Plant.layer e ws (length ws / 2) c.from_residual.result first; first = first }

pub returns : goal.returns
returns g c =
    let e = c.args.items.edition in
    let ws = c.args.items.words.now in
    let m = g.P.Plant.meaning c.args.plant.now in
    let end = items_end e ws _ _ c.loop-place.invariant.walk c.in-None.ensures.steps.0.0 in
    let all : AllFit m e ws (length ws / 2) = λ q l. c.loop-place.invariant.fit q (omega arith) in
    record { answer = pinned m g.P.Plant.layer e ws (length ws / 2) (Ok tt) all; first = all }
