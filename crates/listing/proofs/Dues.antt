-- What is due for an image and a buffer.
use Rattle.std.proofs.Common.{◌≡◌, ℕ, ◌≤◌, true, leb, List, ◌++◌, length, drop, Some, None, Option, sym, ap, ◌∙◌, arith}
use Rattle.std.proofs.lemmas.Bool.{cond-true}
use Rattle.std.proofs.lemmas.Bool.Decides.{nat_tests}
use Rattle.lay.specs.Lays.{Lays}
use Rattle.lay.proofs.Joins.{whole}
use Rattle.told.specs.declared.Told.{Told}
use Rattle.listing.specs.Listed.{listed, no, fitted, unless_no, not_listed, text_of, due_for}

pub record Fits (text old new : List ℕ) (n : ℕ) : Type 0 where
  pub answer : listed n ≡ fitted text (length old)
  pub left : new ≡ text ++ drop (length text) old

pub fits : (text old new : List ℕ) (n : ℕ) → Lays old 0 text new n → length text ≤ length old → Fits text old new n
fits text old new n p room =
    let (e, w) = whole old new text n p room in
    let t : leb (length text) (length old) ≡ true = grind (arith, nat_tests) in
    record { answer = ap listed e ∙ sym (cond-true _ _ _ t); left = w }

-- a refusal of the questions 1 to 5
pub refused_due : (ws : List ℕ) (room : ℕ) (t : Told) → not_listed ws ≡ Some t → no t ≡ due_for ws room
unfolding due_for
refused_due ws room t h = sym (ap (λ (o : Option Told). unless_no o (text_of ws) room) h)

-- none of them
pub fitted_due : (ws text : List ℕ) (room : ℕ) → not_listed ws ≡ None → text ≡ text_of ws → fitted text room ≡ due_for ws room
unfolding due_for
fitted_due ws text room h e = ap (λ (s : List ℕ). fitted s room) e ∙ sym (ap (λ (o : Option Told). unless_no o (text_of ws) room) h)
