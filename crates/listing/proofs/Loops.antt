-- Lines, one after the other.
use Rattle.std.proofs.Common.{◌≡◌, ℕ, List, [], ◌∷◌, ◌++◌, Option, sym, ap, ◌∙◌, append_assoc, append-nil, refl}
use Rattle.listing.specs.Lines.{line_of, lines_of}

module _ {A : Type 0} (text : A → List ℕ) where
  pub no_lines : [] ≡ lines_of text []
  unfolding lines_of
  no_lines = refl

  -- one line more
  pub one_more : (xs : List (Option A)) (x : Option A) → lines_of text xs ++ line_of text x ≡ lines_of text (xs ++ (x ∷ []))
  unfolding lines_of
  one_more [] x = sym (append-nil (line_of text x))
  one_more (y ∷ xs) x = append_assoc (line_of text y) (lines_of text xs) (line_of text x) ∙ ap (λ (ls : List ℕ). line_of text y ++ ls) (one_more xs x)
