-- Windows of two histories, read and put back side by side.
use Rattle.std.proofs.Common.{◌≡◌, ℕ, zero, suc, ◌+◌, Bool, true, false, cond, ltb, List, [], ◌∷◌, length, get_or, set, ℤ, pos, refl, ap, subst, arith, length-set}
use Rattle.std.proofs.lemmas.Bool.{ltb-true}
use Rattle.block.specs.Windows.{cell_at, window_of, with_cell, with_window, worked_at, history_after}
use Rattle.block_laws.specs.Agreement.{Agree, WindowsAgree}

set_both : (a b : List ℤ) (i p : ℕ) (v : ℤ) → length a ≡ length b → get_or a p (pos 0) ≡ get_or b p (pos 0) → get_or (set a i v) p (pos 0) ≡ get_or (set b i v) p (pos 0)
set_both [] [] i p v l h = refl
set_both [] (y ∷ b) i p v l h = absurd (omega arith)
set_both (x ∷ a) [] i p v l h = absurd (omega arith)
set_both (x ∷ a) (y ∷ b) zero zero v l h = refl
set_both (x ∷ a) (y ∷ b) zero (suc p) v l h = h
set_both (x ∷ a) (y ∷ b) (suc i) zero v l h = h
set_both (x ∷ a) (y ∷ b) (suc i) (suc p) v l h = set_both a b i p v (omega arith) h

length_both : (a b : List ℤ) (i : ℕ) (v : ℤ) → length a ≡ length b → length (set a i v) ≡ length (set b i v)
length_both a b i v l = simp length-set l

module _ (first count : ℕ) where
  cell_same : (a b : List ℤ) (k : ℕ) → Agree first count a b → cell_at a first count k ≡ cell_at b first count k
  cell_same a b k same = by_test (ltb k count) refl
    where
      by_test : (t : Bool) → ltb k count ≡ t → cond t (get_or a (first + k) (pos 0)) (pos 0) ≡ cond t (get_or b (first + k) (pos 0)) (pos 0)
      by_test true p = same.cells k (ltb-true k count p)
      by_test false p = refl

  window_same : (a b : List ℤ) → Agree first count a b → window_of a first count ≡ window_of b first count
  window_same a b same = λ i. cell_same a b 0 same i ∷ cell_same a b 1 same i ∷ cell_same a b 2 same i ∷ []

  cell_put : (a b : List ℤ) (k : ℕ) (v : ℤ) → Agree first count a b → Agree first count (with_cell a first count k v) (with_cell b first count k v)
  cell_put a b k v same = by_test (ltb k count)
    where
      by_test : (t : Bool) → Agree first count (cond t (set a (first + k) v) a) (cond t (set b (first + k) v) b)
      by_test true = record { long = length_both a b (first + k) v same.long; cells = λ j l. set_both a b (first + k) (first + j) v same.long (same.cells j l) }
      by_test false = same

  window_put : (a b cs : List ℤ) → Agree first count a b → Agree first count (with_window a first count cs) (with_window b first count cs)
  window_put a b cs same =
      cell_put _ _ 2 (get_or cs 2 (pos 0)) (cell_put _ _ 1 (get_or cs 1 (pos 0)) (cell_put a b 0 (get_or cs 0 (pos 0)) same))

pub agreed : WindowsAgree
unfolding worked_at history_after
agreed m inputs a b first ms same =
    let window = window_same first m.count a b same in
    record {
      told = ap (λ (cs : List ℤ). (m.gives inputs cs ms).worked) window;
      after = subst (λ (cs : List ℤ). Agree first m.count (with_window a first m.count (m.gives inputs (window_of a first m.count) ms).cells) (with_window b first m.count (m.gives inputs cs ms).cells)) window (window_put first m.count a b (m.gives inputs (window_of a first m.count) ms).cells same);
    }
