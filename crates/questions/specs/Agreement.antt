-- Each rule finds no fault in a list exactly when its question gets a yes.
use Rattle.std.specs.Prelude.{◌≡◌, List, None}
use Rattle.item.specs.declared.item.Item.{Item}
use Rattle.rule.specs.Automata.{Automaton, first_fault, known}
use Rattle.grammar.specs.Lists.{IsList}
use Rattle.fitting.specs.Depth.{depths}
use Rattle.fitting.specs.Types.{types}
use Rattle.fitting.specs.Targets.{targets}
use Rattle.fitting.specs.Pins.{pins}
use Rattle.questions.specs.Everywhere.{Each, Everywhere}
use Rattle.questions.specs.Brackets.{Shallow}
use Rattle.questions.specs.Sentences.{Typed}
use Rattle.questions.specs.Targets.{Written}
use Rattle.questions.specs.Calls.{Pinned}

abbrev pub NoFault : {S : Type 0} → Automaton S → List Item → Type 0
NoFault a xs = first_fault a (known xs) ≡ None

-- the rule finds no fault exactly when the items are so
abbrev pub Exactly : {S : Type 0} → Automaton S → List Item → Type 0 → Type 0
Exactly a xs Yes = (NoFault a xs → Yes) × (Yes → NoFault a xs)

abbrev pub RulesAgree : Type 0
RulesAgree =
    (xs : List Item) → IsList xs →
    Exactly depths xs (Shallow xs)
    × Exactly types xs (Everywhere Typed xs)
    × Exactly targets xs (Each Written xs)
    × Exactly pins xs (Everywhere Pinned xs)
