-- A pair is cut at its first comma.
use Rattle.std.proofs.Common.{◌≡◌, ℕ, ◌+◌, ◌-◌, ◌<◌, Bool, List, ◌∷◌, ◌++◌, length, get_or, take, drop, Some, sym, ap, ◌∙◌, arith}
use Rattle.std.specs.List.{position, position_or_len}
use Rattle.std.proofs.lemmas.List.Quantifiers.{position-Some}
use Rattle.std.proofs.lemmas.Bool.Decides.{nat_tests}
use Rattle.std.proofs.lemmas.List.{drop_more, take_rest, take-append-drop}
use Rattle.std.proofs.lemmas.Bool.{eqb-true}
use Rattle.character.specs.Classes.{is_comma}
use Rattle.token.specs.Tokens.{before, after}

found_at : {X : Type 0} (p : X → Bool) (xs : List X) (i : ℕ) → Some i ≡ position p xs → i ≡ position_or_len p xs
found_at p xs i h = grind (arith, nat_tests)

-- the two sides of the comma make the whole again
pub rejoined : (bs : List ℕ) (i : ℕ) → i < length bs → get_or bs i 0 ≡ 44 → take i bs ++ (44 ∷ drop (i + 1) bs) ≡ bs
rejoined bs i l h = ap (λ x. take i bs ++ (x ∷ drop (i + 1) bs)) (sym h) ∙ ap (λ xs. take i bs ++ xs) (sym (drop_more bs i 0 l)) ∙ take-append-drop i bs

pub comma_found : (bs : List ℕ) (i : ℕ) → Some i ≡ position is_comma bs → (take i bs ≡ before bs) × (take (length bs - (i + 1)) (drop (i + 1) bs) ≡ after bs) × (take i bs ++ (44 ∷ take (length bs - (i + 1)) (drop (i + 1) bs)) ≡ bs)
comma_found bs i h =
    let there = position-Some is_comma bs i 0 (sym h) in
    let at = found_at is_comma bs i h in (
      ap (λ k. take k bs) at,
      take_rest bs (i + 1) ∙ ap (λ k. drop (k + 1) bs) at,
      ap (λ xs. take i bs ++ (44 ∷ xs)) (take_rest bs (i + 1)) ∙ rejoined bs i there.0 (eqb-true _ 44 there.1),
    )
