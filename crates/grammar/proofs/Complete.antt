use Rattle.std.proofs.Common.{◌≡◌, ℕ, suc, Bool, true, false, List, ◌∷◌, Some, Option, refl, ◌∙◌}
use Rattle.item.specs.declared.mnemonic.Operator.{Operator as Sign}
use Rattle.item.specs.declared.item.Item.{Item}
use Rattle.item.specs.declared.item.Item.TheVariants.{Operator}
use Rattle.grammar.specs.declared.automaton.Side.{Side}
use Rattle.grammar.specs.declared.automaton.Side.TheVariants.{First, Joined, Compared}
use Rattle.grammar.specs.declared.automaton.Grammar.{Grammar}
use Rattle.grammar.specs.declared.automaton.Grammar.TheVariants.{Between, Term, After, Assigned, Done}
use Rattle.rule.specs.Automata.{reached, then}
use Rattle.grammar.specs.Grammar.{grammar, waiting, joins}
use Rattle.grammar.specs.Lists.{Nops, IsTerm, Further, Value, Assignments, IsPins, IsList}

-- the state behind the items, from s on
abbrev pub from : Grammar → List Item → Option Grammar
from s xs = reached grammar xs s

-- NOPs behind a term lead nowhere else, but that no bracket may close
nops_after : {xs ys : List Item} → Nops xs ys → (d : ℕ) (s : Side) (n : Bool) → (v : Bool) × (from (After d s n) xs ≡ from (After d s v) ys)
unfolding reached
nops_after Nops.here d s n = (n, refl)
nops_after (Nops.nop h) d s n = nops_after h d s true

nops_assigned : {xs ys : List Item} → Nops xs ys → from Assigned xs ≡ from Assigned ys
unfolding reached
nops_assigned Nops.here = refl
nops_assigned (Nops.nop h) = nops_assigned h

-- an operator behind NOPs
operator_after : {xs ys : List Item} {o : Sign} → Nops xs (Operator o ∷ ys) → (d : ℕ) (s : Side) (n : Bool) → from (After d s n) xs ≡ then (reached grammar ys) (joins d s)
unfolding reached
operator_after h d s n = (nops_after h d s n).1

mutual
  unfolding reached

  term_runs : {xs ys : List Item} → IsTerm xs ys → (d : ℕ) (s : Side) → from (Term d s) xs ≡ from (After d s false) ys
  term_runs (IsTerm.operand o) d s = refl
  term_runs (IsTerm.bracket t h k) d s = term_runs h (suc d) s ∙ inner_runs k d s

  inner_runs : {xs ys : List Item} → Further xs ys → (d : ℕ) (s : Side) → from (After (suc d) s false) xs ≡ from (After (suc d) s false) ys
  inner_runs Further.none d s = refl
  inner_runs (Further.term o h t k) d s = operator_after h (suc d) s false ∙ (term_runs t (suc d) s ∙ inner_runs k d s)

-- further terms outside all brackets
outer_joined : {xs ys : List Item} → Further xs ys → from (After 0 Joined false) xs ≡ from (After 0 Joined false) ys
outer_joined Further.none = refl
outer_joined (Further.term o h t k) = operator_after h 0 Joined false ∙ (term_runs t 0 Joined ∙ outer_joined k)

outer_first : {xs ys : List Item} → Further xs ys → (s : Side) × (from (After 0 First false) xs ≡ from (After 0 s false) ys)
outer_first Further.none = (First, refl)
outer_first (Further.term o h t k) = (Joined, operator_after h 0 First false ∙ (term_runs t 0 Joined ∙ outer_joined k))

value_runs : {xs ys : List Item} → Value xs ys → (s : Side) × (from (Term 0 First) xs ≡ from (After 0 s false) ys)
unfolding reached
value_runs (Value.terms h k) = let w = outer_first k in (w.0, term_runs h 0 First ∙ w.1)
value_runs (Value.compared c h n k) = (Compared, term_runs h 0 First ∙ ((nops_after n 0 First false).1 ∙ term_runs k 0 Compared))

-- both ways on behind a sentence lead to the end
abbrev RunsOut : List Item → Type 0
RunsOut xs = (from Between xs ≡ Some Done) × (from Assigned xs ≡ Some Done)

assignments_run : {xs ys : List Item} → Assignments xs ys → RunsOut ys → (s : Side) (n : Bool) → (from (After 0 s n) xs ≡ Some Done) × (from Assigned xs ≡ Some Done)
unfolding reached
assignments_run (Assignments.last f o h) r s n = ((nops_after h 0 s n).1 ∙ r.1, nops_assigned h ∙ r.1)
assignments_run (Assignments.end_if h) r s n = ((nops_after h 0 s n).1 ∙ r.0, nops_assigned h ∙ r.0)
assignments_run (Assignments.another f o h k) r s n = ((nops_after h 0 s n).1 ∙ (assignments_run k r s n).1, nops_assigned h ∙ (assignments_run k r s n).1)

pins_run : {n : ℕ} {xs ys : List Item} → IsPins n xs ys → from (waiting n) xs ≡ from Between ys
unfolding reached
pins_run IsPins.none = refl
pins_run (IsPins.pin o h) = pins_run h
pins_run (IsPins.direct w h) = pins_run h

list_runs_out : {xs : List Item} → IsList xs → RunsOut xs
unfolding reached
list_runs_out (IsList.nop h) = list_runs_out h
list_runs_out (IsList.mark m h) = ((list_runs_out h).0, (list_runs_out h).0)
list_runs_out (IsList.sentence t v a h) =
    let w = value_runs v in
    let e = w.1 ∙ (assignments_run a (list_runs_out h) w.0 false).0 in
    (e, e)
list_runs_out (IsList.call j k p h) = let e = pins_run p ∙ (list_runs_out h).0 in (e, e)
list_runs_out IsList.end = (refl, refl)

-- a list leads the automaton to its end
pub list_runs : (xs : List Item) → IsList xs → from Between xs ≡ Some Done
list_runs xs h = (list_runs_out h).0
