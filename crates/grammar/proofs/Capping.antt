use Rattle.std.proofs.Common.{◌≡◌, ℕ, ◌+◌, ◌<◌, ◌≤◌, Bool, true, cond, ltb, List, [], ◌∷◌, length, Some, None, Option, refl, ap, ◌∙◌, arith}
use Rattle.std.proofs.lemmas.Bool.Decides.{nat_tests}
use Rattle.item.specs.declared.item.Item.{Item}
use Rattle.rule.specs.Automata.{Automaton, fault_on, fault_from, stepped}
use Rattle.grammar.specs.Capped.{capped}

module _ {S : Type 0} (n : ℕ) (size : S → ℕ) (a : Automaton S) (grows : (s t : S) (i : Item) → a.step s i ≡ Some t → size t ≤ size s + 1) where
  below : (s : S) → size s < n → ltb (size s) n ≡ true
  below s h = grind (arith, nat_tests)

  same_step : (s : S) (o : Option Item) → size s < n → stepped (capped n size a) s o ≡ stepped a s o
  same_step s None h = refl
  same_step s (Some i) h = ap (λ (b : Bool). cond b (a.step s i) None) (below s h)

  grown : (s t : S) (o : Option Item) → stepped a s o ≡ Some t → size t ≤ size s + 1
  grown s t None e = grind arith
  grown s t (Some i) e = grows s t i e

  same_on : (xs : List (Option Item)) (p : ℕ) (o : Option S) → ((t : S) → o ≡ Some t → fault_from (capped n size a) xs t (p + 1) ≡ fault_from a xs t (p + 1)) → fault_on p (λ t. fault_from (capped n size a) xs t (p + 1)) o ≡ fault_on p (λ t. fault_from a xs t (p + 1)) o
  same_on xs p None k = refl
  same_on xs p (Some t) k = k t refl

  -- as long as there are no more items than the limit, the limit is never met
  pub capped_same : (xs : List (Option Item)) (s : S) (p : ℕ) → size s + length xs ≤ n → fault_from (capped n size a) xs s p ≡ fault_from a xs s p
  unfolding fault_from
  capped_same [] s p h = refl
  capped_same (x ∷ xs) s p h =
      ap (fault_on p (λ t. fault_from (capped n size a) xs t (p + 1))) (same_step s x (omega arith))
      ∙ same_on xs p (stepped a s x) (λ t e. capped_same xs t (p + 1) (omega (arith, grown s t x e)))
