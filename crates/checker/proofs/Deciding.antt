-- The code's answers and the verdict.
use Rattle.std.proofs.Common.{◌≡◌, ℕ, ◌+◌, ◌*◌, ◌≤◌, Bool, true, List, length, Some, None, Ok, Err, Option, sym, ap, ◌∙◌, arith, length-drop, length-take}
use Rattle.std.proofs.lemmas.Bool.Decides.{nat_tests}
use Rattle.operand.specs.declared.edition.Edition.{Edition}
use Rattle.told.specs.declared.Told.{Told}
use Rattle.view.specs.declared.Image.{Image}
use Rattle.view.specs.declared.OpenRefusal.{OpenRefusal}
use Rattle.view.specs.declared.OpenRefusal.TheVariants as View
use Rattle.view.specs.Trailers.{Opens, InTurn, has_trailer, edition_in, known_edition, sizes_fit, back_in, items_in, constants_in, item_part, constant_part}
use Rattle.checker.specs.Refusals.{told_of, of_view}
use Rattle.checker.specs.Verdict.{Verdict, refused, unless, no_or, first_no, list_questions, parts_of, seen, then_no, list_no, unless_refused, verdict_of}

-- the verdict, from the answers to the trailer's questions
told_by : Bool → Bool → Bool → Option Told → List ℕ → Verdict
told_by one two three rest ws = unless_refused (then_no (no_or 1 (unless one) (no_or 2 (unless two) (no_or 3 (unless three) None))) rest) ws

pub not_opened : (ws : List ℕ) (q : OpenRefusal) → Opens ws (Err q) → InTurn ws (Err q) → refused (told_of (of_view q)) ≡ verdict_of ws
unfolding verdict_of told_by
not_opened ws View.NoTrailer h t = sym (ap (λ (b : Bool). told_by b (known_edition ws) (sizes_fit ws) (list_no (edition_in ws) ws) ws) h)
not_opened ws View.NoEdition (h, n) k = sym (ap (λ (b : Bool). told_by b (known_edition ws) (sizes_fit ws) (list_no (edition_in ws) ws) ws) h ∙ ap (λ (b : Bool). told_by true b (sizes_fit ws) (list_no (edition_in ws) ws) ws) k)
not_opened ws View.NoFit (h, l) k =
    sym (ap (λ (b : Bool). told_by b (known_edition ws) (sizes_fit ws) (list_no (edition_in ws) ws) ws) h
    ∙ (ap (λ (b : Bool). told_by true b (sizes_fit ws) (list_no (edition_in ws) ws) ws) k
    ∙ ap (λ (b : Bool). told_by true true b (list_no (edition_in ws) ws) ws) l))

pub known_some : (ws : List ℕ) (e : Edition) → edition_in ws ≡ Some e → known_edition ws ≡ true
known_some ws e h = grind (arith, nat_tests)

-- an image whose trailer is in order gets the verdict of the list's questions
pub opened_verdict : (ws : List ℕ) (e : Edition) → has_trailer ws ≡ true → edition_in ws ≡ Some e → sizes_fit ws ≡ true → unless_refused (first_no list_questions (parts_of ws e)) ws ≡ verdict_of ws
unfolding verdict_of told_by
opened_verdict ws e h k l =
    sym (ap (λ (b : Bool). told_by b (known_edition ws) (sizes_fit ws) (list_no (edition_in ws) ws) ws) h
    ∙ (ap (λ (b : Bool). told_by true b (sizes_fit ws) (list_no (edition_in ws) ws) ws) (known_some ws e k)
    ∙ (ap (λ (b : Bool). told_by true true b (list_no (edition_in ws) ws) ws) l
    ∙ ap (λ (o : Option Edition). unless_refused (list_no o ws) ws) k)))

same_parts : (ws : List ℕ) (v : Image) → Opens ws (Ok v) → seen v ≡ parts_of ws v.edition
same_parts ws v h = λ i. record { edition = v.edition; items = h.3 i; constants = h.4 i; cells = h.5 i }

pub opened_to : (ws : List ℕ) (v : Image) → Opens ws (Ok v) → (o : Option Told) → o ≡ first_no list_questions (seen v) → unless_refused o ws ≡ verdict_of ws
opened_to ws v h o q =
    ap (λ (t : Option Told). unless_refused t ws) (q ∙ ap (first_no list_questions) (same_parts ws v h))
    ∙ opened_verdict ws v.edition h.0 h.1 h.2

-- the sizes of the parts

module _ (ws : List ℕ) (fit : sizes_fit ws ≡ true) where
  pub backs : back_in ws ≡ 2 * items_in ws + 3 * constants_in ws + 6
  backs = grind (arith, nat_tests)

  pub within : back_in ws ≤ length ws
  within = grind (arith, nat_tests)

  pub few_items : items_in ws ≤ 4096
  few_items = grind (arith, nat_tests)

  pub item_length : length (item_part ws) ≡ 2 * items_in ws
  item_length = let b = backs in let w = within in simp (length-take, length-drop) (omega arith)

  pub constant_length : length (constant_part ws) ≡ 3 * constants_in ws
  constant_length = let b = backs in let w = within in simp (length-take, length-drop) (omega arith)
