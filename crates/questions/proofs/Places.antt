-- Items by place, and items as a list.
use Rattle.std.proofs.Common.{◌≡◌, ℕ, zero, suc, ◌+◌, ◌/◌, ◌<◌, List, [], ◌∷◌, length, Some, sym, refl, ◌∙◌, arith}
use Rattle.operand.specs.declared.edition.Edition.{Edition}
use Rattle.item.specs.declared.item.Item.{Item}
use Rattle.rule.specs.Automata.{known}
use Rattle.decode.specs.Words.{item_at, items_from}
use Rattle.decode.proofs.Places.{items_more, items_all}

pub cons_head : {A : Type 0} {a b : A} {xs ys : List A} → (a ∷ xs) ≡ (b ∷ ys) → a ≡ b
cons_head h = cc

pub cons_tail : {A : Type 0} {a b : A} {xs ys : List A} → (a ∷ xs) ≡ (b ∷ ys) → xs ≡ ys
cons_tail h = cc

module _ (e : Edition) (ws : List ℕ) where
  -- the item at a place from which a list of items stands
  pub at_place : (p : ℕ) (x : Item) (xs : List Item) → p < length ws / 2 → items_from e ws p ≡ known (x ∷ xs) → item_at e ws p ≡ Some x
  unfolding known
  at_place p x xs l h = cons_head (sym (items_more e ws p l) ∙ h)

  pub behind_place : (p : ℕ) (x : Item) (xs : List Item) → p < length ws / 2 → items_from e ws p ≡ known (x ∷ xs) → items_from e ws (p + 1) ≡ known xs
  unfolding known
  behind_place p x xs l h = cons_tail (sym (items_more e ws p l) ∙ h)

  -- so many items are left
  pub how_many : (k p : ℕ) (xs : List Item) → p + k ≡ length ws / 2 → items_from e ws p ≡ known xs → length xs ≡ k
  unfolding known
  how_many zero p [] l h = refl
  how_many zero p (x ∷ xs) l h = let none = items_all e ws p (omega arith) in cc
  how_many (suc k) p [] l h = let more = items_more e ws p (omega arith) in cc
  how_many (suc k) p (x ∷ xs) l h = let r = how_many k (p + 1) xs (omega arith) (behind_place p x xs (omega arith) h) in omega arith
