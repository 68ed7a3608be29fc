-- A rule finds no fault exactly when it comes through all items to a state where the list may end.
use Rattle.std.proofs.Common.{◌≡◌, ℕ, ◌+◌, true, List, [], ◌∷◌, Some, None, Option, refl, ap, ◌∙◌}
use Rattle.std.proofs.lemmas.Bool.{cond-true}
use Rattle.item.specs.declared.item.Item.{Item}
use Rattle.rule.specs.Automata.{Automaton, fault_on, fault_from, first_fault, known, reached, then}
use Rattle.grammar.proofs.Told.{Told, told}
use Rattle.questions.specs.Agreement.{NoFault}

module _ {S : Type 0} (a : Automaton S) where
  -- it comes through the items from s on
  abbrev pub Through : List Item → S → Type 0
  Through xs s = (t : S) × (reached a xs s ≡ Some t)

  step_on : (xs : List Item) (t : S) (o : Option S) → then (reached a xs) o ≡ Some t → (u : S) × (o ≡ Some u) × (reached a xs u ≡ Some t)
  step_on xs t None h = cc
  step_on xs t (Some u) h = (u, refl, h)

  -- the first item leads on
  pub first_step : (x : Item) (xs : List Item) (s t : S) → reached a (x ∷ xs) s ≡ Some t → (u : S) × (a.step s x ≡ Some u) × (reached a xs u ≡ Some t)
  unfolding reached
  first_step x xs s t h = step_on xs t (a.step s x) h

  pub through_more : (x : Item) (xs : List Item) (s u : S) → a.step s x ≡ Some u → Through xs u → Through (x ∷ xs) s
  unfolding reached
  through_more x xs s u e (t, h) = (t, ap (then (reached a xs)) e ∙ h)

  pub through_none : (s : S) → Through [] s
  unfolding reached
  through_none s = (s, refl)

  pub clear_through : (xs : List Item) → NoFault a xs → Through xs a.start
  clear_through xs h = by (first_fault a (known xs)) h (told a xs a.start 0)
    where
      by : (r : Option ℕ) → r ≡ None → Told a xs a.start 0 r → Through xs a.start
      by None e (t, m, n) = (t, m)
      by (Some q) e w = cc

  pub reached_clear : (xs : List Item) (s t : S) (p : ℕ) → reached a xs s ≡ Some t → a.ends t ≡ true → fault_from a (known xs) s p ≡ None
  unfolding fault_from known reached
  reached_clear [] s t p h e = let same : s ≡ t = cc in cond-true _ _ _ (ap a.ends same ∙ e)
  reached_clear (x ∷ xs) s t p h e =
      let (u, f, k) = first_step x xs s t h in
      ap (fault_on p (λ v. fault_from a (known xs) v (p + 1))) f ∙ reached_clear xs u t (p + 1) k e

  pub through_clear : ((s : S) → a.ends s ≡ true) → (xs : List Item) (s : S) (p : ℕ) → Through xs s → fault_from a (known xs) s p ≡ None
  through_clear all xs s p (t, h) = reached_clear xs s t p h (all t)
