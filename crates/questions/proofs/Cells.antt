-- Question 12: the sum by places is the sum over the items.
use Rattle.std.proofs.Common.{◌≡◌, ℕ, suc, ◌+◌, ◌/◌, ◌<◌, List, [], ◌∷◌, length, ap, ◌∙◌, arith}
use Rattle.operand.specs.declared.edition.Edition.{Edition}
use Rattle.item.specs.declared.item.Item.{Item}
use Rattle.item.specs.Items.{item_cells}
use Rattle.image.specs.Images.{cells_sum}
use Rattle.rule.specs.Automata.{known}
use Rattle.decode.specs.Words.{items_from}
use Rattle.marks.specs.Cells.{cells_asked, cells_before, all_cells}
use Rattle.questions.proofs.Places.{at_place, behind_place, how_many}

module _ (e : Edition) (ws : List ℕ) where
  sum_from : (p : ℕ) (xs : List Item) → items_from e ws p ≡ known xs → p + length xs ≡ length ws / 2 → cells_before e ws p + cells_sum xs ≡ all_cells e ws
  unfolding cells_before cells_sum
  sum_from p [] h n = let all : p ≡ length ws / 2 = omega arith in let s = ap (cells_before e ws) all in omega arith
  sum_from p (x ∷ xs) h n =
      let l : p < length ws / 2 = omega arith in
      let on : p + 1 ≡ suc p = omega arith in
      let rest = sum_from (p + 1) xs (behind_place e ws p x xs l h) (omega arith) in
      let next : cells_before e ws (p + 1) ≡ cells_before e ws p + item_cells x = ap (cells_before e ws) on ∙ ap (λ o. cells_before e ws p + cells_asked o) (at_place e ws p x xs l h) in
      omega arith

  pub same_sum : (xs : List Item) → items_from e ws 0 ≡ known xs → all_cells e ws ≡ cells_sum xs
  unfolding cells_before
  same_sum xs h =
      let n = how_many e ws (length ws / 2) 0 xs (omega arith) h in
      let s = sum_from 0 xs h (omega arith) in
      omega arith
