use Rattle.std.proofs.Common.{◌≡◌, ℕ, zero, suc, Bool, true, false, List, [], ◌∷◌, ◌++◌, take, Some, None, Option, sym, refl, ap, ◌∙◌, subst, arith, take_all}
use Rattle.catalogue.specs.declared.Block.TheVariants.{RisingEdge}
use Rattle.item.specs.declared.item.Item.{Item}
use Rattle.item.specs.declared.item.Item.TheVariants.{Close, Operand, Operator, EndIf, Kind, Direct, End}
use Rattle.grammar.specs.declared.automaton.Side.{Side}
use Rattle.grammar.specs.declared.automaton.Grammar.{Grammar}
use Rattle.grammar.specs.declared.automaton.Grammar.TheVariants.{Between, Term, After, Assigned, Named, Pins, Done}
use Rattle.rule.specs.Automata.{reached, then, first_fault, known}
use Rattle.grammar.specs.Grammar.{grammar, waiting, done}
use Rattle.grammar.specs.Lists.{Begins, Judged}
use Rattle.operand.specs.declared.operand.Operand.{Operand as Place}
use Rattle.operand.specs.declared.kind.Kind.TheVariants.{Input}
use Rattle.item.specs.declared.mnemonic.Operator.TheVariants.{And}
use Rattle.grammar.proofs.Complete.{list_runs}
use Rattle.grammar.proofs.Sound.{list_from, none_some, some_same}
use Rattle.grammar.proofs.Told.{Told, told, reached_append}

-- each state has items that lead to the end
abbrev Live : Grammar → Type 0
Live g = (rest : List Item) × (reached grammar rest g ≡ Some Done)

some_place : Place
some_place = record { kind = Input; group = 0; channel = 0 }

live_behind : (d : ℕ) (s : Side) → Live (After d s false)
unfolding reached
live_behind zero s = (EndIf ∷ End ∷ [], refl)
live_behind (suc d) s = let w = live_behind d s in (Close ∷ w.0, w.1)

live_after : (d : ℕ) (s : Side) (n : Bool) → Live (After d s n)
unfolding reached
live_after zero s n = (EndIf ∷ End ∷ [], refl)
live_after (suc d) s false = live_behind (suc d) s
live_after (suc d) s true = let w = live_behind (suc d) s in (Operator And ∷ Operand some_place ∷ w.0, w.1)

live_pins : (n : ℕ) → Live (waiting n)
unfolding reached
live_pins zero = (End ∷ [], refl)
live_pins (suc n) = let w = live_pins n in (Direct 0 ∷ w.0, w.1)

live : (g : Grammar) → Live g
unfolding reached
live Between = (End ∷ [], refl)
live (Term d s) = let w = live_behind d s in (Operand some_place ∷ w.0, w.1)
live (After d s n) = live_after d s n
live Assigned = (End ∷ [], refl)
live Named = (Kind RisingEdge ∷ Direct 0 ∷ Direct 0 ∷ End ∷ [], refl)
live (Pins n) = live_pins (suc n)
live Done = ([], refl)

-- a list can begin with the items exactly when the automaton finds none of them at fault
pub begins_from : (xs : List Item) (g : Grammar) → reached grammar xs Between ≡ Some g → Begins xs
begins_from xs g e =
    let w = live g in
    (w.0, list_from (xs ++ w.0) (reached_append grammar xs w.0 Between ∙ (ap (then (reached grammar w.0)) e ∙ w.1)))

pub begins_not : (xs : List Item) → reached grammar xs Between ≡ None → Begins xs → ⊥
begins_not xs e (rest, l) =
    none_some Done (sym (ap (then (reached grammar rest)) e) ∙ (sym (reached_append grammar xs rest Between) ∙ list_runs (xs ++ rest) l))

only_done : (g : Grammar) → done g ≡ true → g ≡ Done
only_done g e = grind arith

judged_by : (xs : List Item) (r : Option ℕ) → Told grammar xs Between 0 r → Judged xs r
judged_by xs None (g, e, d) = list_from xs (e ∙ ap (λ (x : Grammar). Some x) (only_done g d))
judged_by xs (Some p) (k, g, i, j, e, n, o) =
    let same : k ≡ p = omega arith in
    subst (λ (q : ℕ). Judged xs (Some q)) same (
      j,
      begins_from (take k xs) g e,
      (λ l. begins_not (take (suc k) xs) (n l)),
      λ l h.
          let all : take k xs ≡ xs = take_all k xs (omega arith) in
          let end : Some g ≡ Some Done = sym e ∙ (ap (λ (x : List Item). reached grammar x Between) all ∙ list_runs xs h) in
          let yes : true ≡ done g = sym (ap done (some_same g Done end)) in
          let z : ◌≡◌ {A = Bool} true false = yes ∙ o l in
          grind arith,
    )

pub judged : (xs : List Item) → Judged xs (first_fault grammar (known xs))
judged xs = judged_by xs (first_fault grammar (known xs)) (told grammar xs Between 0)
