-- Each rule finds no fault in a list exactly when its question gets a yes.
use Rattle.std.proofs.Common.{◌≡◌, List, Some, refl, arith}
use Rattle.item.specs.declared.item.Item.{Item}
use Rattle.rule.specs.Automata.{reached}
use Rattle.grammar.specs.declared.automaton.Grammar.TheVariants.{Between, Done}
use Rattle.grammar.specs.Grammar.{grammar}
use Rattle.grammar.specs.Lists.{IsList}
use Rattle.grammar.proofs.Complete.{list_runs}
use Rattle.fitting.specs.declared.types.Types.TheVariants.{Idle}
use Rattle.fitting.specs.declared.pins.Pins.TheVariants as Due
use Rattle.fitting.specs.Depth.{depths, deep}
use Rattle.fitting.specs.Types.{types}
use Rattle.fitting.specs.Targets.{targets}
use Rattle.fitting.specs.Pins.{pins}
use Rattle.questions.specs.Everywhere.{Each, Everywhere}
use Rattle.questions.specs.Brackets.{Shallow}
use Rattle.questions.specs.Sentences.{Typed}
use Rattle.questions.specs.Targets.{Written}
use Rattle.questions.specs.Calls.{Pinned}
use Rattle.questions.specs.Agreement.{Exactly, RulesAgree}
use Rattle.questions.proofs.Runs.{clear_through, through_clear}
use Rattle.questions.proofs.Depths as Depths
use Rattle.questions.proofs.Types as Types
use Rattle.questions.proofs.Targets as Targets
use Rattle.questions.proofs.Calls as Calls

module _ (xs : List Item) (l : IsList xs) where
  runs : reached grammar xs Between ≡ Some Done
  runs = list_runs xs l

  depths_agree : Exactly depths xs (Shallow xs)
  depths_agree = (
    (λ h. let (u, r) = clear_through depths xs h in λ k. let w = Depths.sound xs Between Done u runs r (omega arith) k in omega arith),
    (λ w. through_clear depths (λ s. refl) xs (deep 0) 0 (Depths.complete xs Between Done runs (λ k. let v = w k in omega arith))),
  )

  types_agree : Exactly types xs (Everywhere Typed xs)
  types_agree = (
    (λ h. let (u, r) = clear_through types xs h in Types.sound xs Between Done Idle u runs refl r refl),
    (λ w. through_clear types (λ s. refl) xs Idle 0 (Types.complete xs Between Done Idle runs refl w (λ j. cc))),
  )

  targets_agree : Exactly targets xs (Each Written xs)
  targets_agree = (
    (λ h. let (u, r) = clear_through targets xs h in Targets.sound xs targets.start u r),
    (λ w. through_clear targets (λ s. refl) xs targets.start 0 (Targets.complete xs targets.start w)),
  )

  pins_agree : Exactly pins xs (Everywhere Pinned xs)
  pins_agree = (
    (λ h. let (u, r) = clear_through pins xs h in (Calls.sound xs Between Done Due.Idle u runs refl r refl).0),
    (λ w. through_clear pins (λ s. refl) xs Due.Idle 0 (Calls.complete xs Between Done Due.Idle runs refl w tt)),
  )

pub rules_agree : RulesAgree
rules_agree xs l = (depths_agree xs l, types_agree xs l, targets_agree xs l, pins_agree xs l)
