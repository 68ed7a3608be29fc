use Rattle.std.proofs.Common.{◌≡◌, ℕ, suc, ◌+◌, ◌<◌, ◌≤◌, Bool, true, false, cond, List, [], ◌∷◌, ◌++◌, length, take, Some, None, Option, refl, ap, ◌∙◌, arith}
use Rattle.item.specs.declared.item.Item.{Item}
use Rattle.rule.specs.Automata.{Automaton, reached, then, fault_on, fault_from}
use Rattle.rule.specs.Automata.{known}

-- Of every automaton.
module _ {S : Type 0} (a : Automaton S) where
  append_on : (xs ys : List Item) (o : Option S) → ((s : S) → reached a (xs ++ ys) s ≡ then (reached a ys) (reached a xs s)) → then (reached a (xs ++ ys)) o ≡ then (reached a ys) (then (reached a xs) o)
  append_on xs ys None ih = refl
  append_on xs ys (Some t) ih = ih t

  pub reached_append : (xs ys : List Item) (s : S) → reached a (xs ++ ys) s ≡ then (reached a ys) (reached a xs s)
  unfolding reached
  reached_append [] ys s = refl
  reached_append (x ∷ xs) ys s = append_on xs ys (a.step s x) (reached_append xs ys)

  -- what the place of the first fault says of the states
  abbrev pub Told : List Item → S → ℕ → Option ℕ → Type 0
  Told xs s p None = (t : S) × (reached a xs s ≡ Some t) × (a.ends t ≡ true)
  Told xs s p (Some q) = (k : ℕ) × (t : S) × (q ≡ p + k) × (k ≤ length xs) × (reached a (take k xs) s ≡ Some t) × (k < length xs → reached a (take (suc k) xs) s ≡ None) × (k ≡ length xs → a.ends t ≡ false)

  told_end : (s : S) (p : ℕ) (b : Bool) → a.ends s ≡ b → Told [] s p (cond b None (Some p))
  unfolding reached
  told_end s p true e = (s, refl, e)
  told_end s p false e = (0, s, omega arith, omega arith, refl, λ h. absurd (omega arith), λ _. e)

  told_later : (x : Item) (xs : List Item) (s t : S) (p : ℕ) → a.step s x ≡ Some t → (r : Option ℕ) → Told xs t (p + 1) r → Told (x ∷ xs) s p r
  unfolding reached
  told_later x xs s t p e None h = (h.0, ap (then (reached a xs)) e ∙ h.1, h.2)
  told_later x xs s t p e (Some q) (k, u, i, j, m, n, o) =
      (suc k, u, omega arith, omega arith, ap (then (reached a (take k xs))) e ∙ m, (λ l. ap (then (reached a (take (suc k) xs))) e ∙ n (omega arith)), λ l. o (omega arith))

  told_on : (x : Item) (xs : List Item) (s : S) (p : ℕ) (o : Option S) → a.step s x ≡ o → ((t : S) → Told xs t (p + 1) (fault_from a (known xs) t (p + 1))) → Told (x ∷ xs) s p (fault_on p (λ t. fault_from a (known xs) t (p + 1)) o)
  unfolding reached
  told_on x xs s p None e ih = (0, s, omega arith, omega arith, refl, (λ l. ap (then (reached a (take 0 xs))) e), λ l. absurd (omega arith))
  told_on x xs s p (Some t) e ih = told_later x xs s t p e (fault_from a (known xs) t (p + 1)) (ih t)

  pub told : (xs : List Item) (s : S) (p : ℕ) → Told xs s p (fault_from a (known xs) s p)
  unfolding fault_from known
  told [] s p = told_end s p (a.ends s) refl
  told (x ∷ xs) s p = told_on x xs s p (a.step s x) refl (λ t. told xs t (p + 1))
