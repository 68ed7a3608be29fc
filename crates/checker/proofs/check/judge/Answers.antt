use Rattle.std.proofs.Common.{sym, refl, ◌∙◌}
use Rattle.checker.specs.Verdict.{further_questions, known_questions, seen}
use Rattle.checker.proofs.Clearing.{behind_clear}
use Rattle.checker.proofs.check.judge.Goals as goal

pub returns : goal.returns
returns c =
    let parts = seen c.args.image in
    c.judge_list.ensures parts (sym c.items.ensures.edition) (sym c.items.ensures.words) refl
    ∙ behind_clear known_questions further_questions parts c.in_ok-judge_known.ensures
