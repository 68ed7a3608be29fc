-- One byte further in a text that shows bytes.
use Rattle.std.proofs.Common.{◌≡◌, ℕ, ◌+◌, ◌<◌, ◌≤◌, List, [], ◌++◌, length, get_or, drop, sym, refl, ap, ◌∙◌, add-one, append_assoc, append-nil}
use Rattle.std.proofs.Math.Seq.{drop-cons}
use Rattle.std.proofs.lemmas.List.{drop_all}
use Rattle.cases.specs.Escapes.{given, awaited, bytes_of, unescaped}
use Rattle.cases.specs.declared.escape.Escape.{Escape}

one_more : (e : Escape) (bs : List ℕ) (k : ℕ) → k < length bs
    → unescaped e (drop k bs) ≡ bytes_of (given e (get_or bs k 0)) ++ unescaped (awaited e (get_or bs k 0)) (drop (k + 1) bs)
unfolding unescaped
one_more e bs k h = rw (add-one, drop-cons bs k 0 h)

none_more : (e : Escape) → unescaped e [] ≡ []
unfolding unescaped
none_more e = refl

pub one_done : (done : List ℕ) (e : Escape) (bs : List ℕ) (k : ℕ) → k < length bs
    → (done ++ bytes_of (given e (get_or bs k 0))) ++ unescaped (awaited e (get_or bs k 0)) (drop (k + 1) bs) ≡ done ++ unescaped e (drop k bs)
one_done done e bs k h = append_assoc done (bytes_of (given e (get_or bs k 0))) (unescaped (awaited e (get_or bs k 0)) (drop (k + 1) bs)) ∙ ap (λ (xs : List ℕ). done ++ xs) (sym (one_more e bs k h))

pub all_done : (done : List ℕ) (e : Escape) (bs : List ℕ) (k : ℕ) → length bs ≤ k → done ++ unescaped e (drop k bs) ≡ done
all_done done e bs k h = ap (λ (xs : List ℕ). done ++ unescaped e xs) (drop_all k bs h) ∙ ap (λ (xs : List ℕ). done ++ xs) (none_more e) ∙ append-nil done
