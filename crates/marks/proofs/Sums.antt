-- The sum of cells, item by item.
use Rattle.std.proofs.Common.{◌≡◌, ℕ, zero, suc, ◌+◌, ◌*◌, ◌<◌, List, [], get_or, drop, refl, ap, ◌∙◌, arith, get_or-take, get_or-drop}
use Rattle.std.specs.Simd.{first_chunks}
use Rattle.operand.specs.declared.edition.Edition.{Edition}
use Rattle.decode.specs.Words.{item_at}
use Rattle.marks.specs.Cells.{cells_asked, cells_before}

-- the number of the item at a place, in the words as pairs
pub number_at : (k p : ℕ) (ws : List ℕ) → p < k → get_or (get_or (first_chunks 2 k ws) p []) 0 0 ≡ get_or ws (2 * p) 0
number_at zero p ws h = absurd (omega arith)
number_at (suc k) zero ws h = get_or-take 2 ws 0 0 (omega arith)
number_at (suc k) (suc p) ws h =
    let on : 2 + 2 * p ≡ 2 * suc p = omega arith in
    number_at k p (drop 2 ws) (omega arith) ∙ (get_or-drop 2 ws (2 * p) 0 ∙ ap (λ n. get_or ws n 0) on)

module _ (e : Edition) (ws : List ℕ) where
  pub none_yet : cells_before e ws 0 ≡ 0
  unfolding cells_before
  none_yet = refl

  -- an item more
  pub one_more : (p : ℕ) → cells_before e ws (p + 1) ≡ cells_before e ws p + cells_asked (item_at e ws p)
  unfolding cells_before
  one_more p = let on : p + 1 ≡ suc p = omega arith in ap (cells_before e ws) on

-- what the sum takes from item to item
pub ruleset adding = (number_at, none_yet, one_more)
