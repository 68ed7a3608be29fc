-- One turn of the pass.
use Rattle.std.proofs.Common.{◌≡◌, ℕ, ◌+◌, true, false, cond, Bool, List, [], ◌∷◌, Some, None, Option, refl, ap}
use Rattle.item.specs.declared.item.Item.{Item}
use Rattle.decode.proofs.Places.{items_length}
use Rattle.rule.specs.Automata.{Automaton, stepped, fault_on, fault_from}

module _ {S : Type 0} (a : Automaton S) (s : S) (p : ℕ) where
  pub fault_cons : (x : Option Item) (ys : List (Option Item)) → fault_from a (x ∷ ys) s p ≡ fault_on p (λ t. fault_from a ys t (p + 1)) (stepped a s x)
  unfolding fault_from
  fault_cons x ys = refl

  -- no item is left
  pub fault_none : a.ends s ≡ true → fault_from a [] s p ≡ None
  unfolding fault_from
  fault_none q = ap (λ (b : Bool). cond b None (Some p)) q

  pub fault_end : a.ends s ≡ false → fault_from a [] s p ≡ Some p
  unfolding fault_from
  fault_end q = ap (λ (b : Bool). cond b None (Some p)) q

module _ {S : Type 0} (p : ℕ) (rest : S → Option ℕ) (o : Option S) where
  -- an item at fault, and one that is not
  pub fault_at : o ≡ None → fault_on p rest o ≡ Some p
  fault_at h = ap (fault_on p rest) h

  pub fault_past : (t : S) → o ≡ Some t → fault_on p rest o ≡ rest t
  fault_past t h = ap (fault_on p rest) h

-- what the pass over the items takes from turn to turn
pub ruleset passing = (fault_cons, fault_at, fault_past, fault_none, fault_end, items_length)
