-- One copy more.
use Rattle.std.proofs.Common.{◌≡◌, ℕ, ◌+◌, List, ◌++◌, sym, ap, ◌∙◌, add-one, append_assoc, append-nil}
use Rattle.cases.specs.Texts.{copies}

pub no_copies : (done xs : List ℕ) → done ≡ done ++ copies 0 xs
unfolding copies
no_copies done xs = sym (append-nil done)

more : (xs : List ℕ) (n : ℕ) → copies n xs ++ xs ≡ copies (n + 1) xs
unfolding copies
more xs n = ap (λ (k : ℕ). copies k xs) (sym (add-one n))

pub one_copy : (done xs : List ℕ) (n : ℕ) → (done ++ copies n xs) ++ xs ≡ done ++ copies (n + 1) xs
one_copy done xs n = append_assoc done (copies n xs) xs ∙ ap (λ (ys : List ℕ). done ++ ys) (more xs n)
