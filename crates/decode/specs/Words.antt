-- The items in a list of words, as a list and by place.
use Rattle.std.specs.Prelude.{ℕ, ◌+◌, ◌*◌, ◌/◌, cond, List, [], ◌∷◌, length, drop, None, Option, nat_lt, slice_index}
use Rattle.operand.specs.declared.edition.Edition.{Edition}
use Rattle.item.specs.declared.item.Item.{Item}
use Rattle.decode.specs.Decoded.{item_decoded}

-- the items that words stand for, two words each
unfoldable pub items_of : Edition → List ℕ → List (Option Item)
items_of e [] = []
items_of e (n ∷ []) = []
items_of e (n ∷ a ∷ ws) = item_decoded e n a ∷ items_of e ws

abbrev pub item_at : Edition → List ℕ → ℕ → Option Item
item_at e ws p = item_decoded e (slice_index ws (2 * p)) (slice_index ws (2 * p + 1))

-- the item at place p, if there are so many
abbrev pub item_in : Edition → List ℕ → ℕ → Option Item
item_in e ws p = cond (nat_lt p (length ws / 2)) (item_at e ws p) None

-- the items from place p on
abbrev pub items_from : Edition → List ℕ → ℕ → List (Option Item)
items_from e ws p = items_of e (drop (2 * p) ws)
