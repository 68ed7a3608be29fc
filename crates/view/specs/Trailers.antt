-- The parts of an image, as its trailer tells them.
use Rattle.std.specs.Prelude.{◌≡◌, ℕ, ◌+◌, ◌-◌, ◌*◌, Bool, true, false, cond, ◌&&◌, List, length, take, drop, Some, None, Ok, Err, Option, Result, ◌==◌, nat_le, slice_index}
use Rattle.operand.specs.declared.edition.Edition.{Edition}
use Rattle.operand.specs.Ranges.{edition_numbered}
use Rattle.image.specs.Images.{most_items, most_constants}
use Rattle.view.specs.declared.Image.{Image}
use Rattle.view.specs.declared.Trailer.{Trailer}
use Rattle.view.specs.declared.OpenRefusal.{OpenRefusal}
use Rattle.view.specs.declared.OpenRefusal.TheVariants.{NoTrailer, NoEdition, NoFit}

-- a word of the trailer, counted back from the end
abbrev pub from_end : List ℕ → ℕ → ℕ
from_end ws k = slice_index ws (length ws - k)

abbrev pub back_in : List ℕ → ℕ
back_in ws = from_end ws 6

abbrev pub items_in : List ℕ → ℕ
items_in ws = from_end ws 5

abbrev pub constants_in : List ℕ → ℕ
constants_in ws = from_end ws 4

abbrev pub cells_in : List ℕ → ℕ
cells_in ws = from_end ws 3

abbrev is_some : Option Edition → Bool
is_some None = false
is_some (Some e) = true

abbrev pub edition_in : List ℕ → Option Edition
edition_in ws = edition_numbered (from_end ws 2)

-- question 1: six words, the last of them AC31h
abbrev pub has_trailer : List ℕ → Bool
has_trailer ws = nat_le 6 (length ws) && from_end ws 1 == 44081

-- question 2: the edition is known
abbrev pub known_edition : List ℕ → Bool
known_edition ws = is_some (edition_in ws)

-- the words of the trailer, if there is one
abbrev pub trailer_in : List ℕ → Option Trailer
trailer_in ws =
    cond (has_trailer ws) (Some (record { back = back_in ws; items = items_in ws; constants = constants_in ws; cells = cells_in ws; edition = from_end ws 2 })) None

-- a trailer's distance to the first item and its numbers of items and constants agree, lie within so many words and within the limits
abbrev pub sizes_agree : ℕ → ℕ → ℕ → ℕ → Bool
sizes_agree back items constants words =
    (back == 2 * items + 3 * constants + 6)
    && (nat_le back words && (nat_le items most_items && nat_le constants most_constants))

-- question 3: the sizes that the trailer tells agree, lie within the image and within the limits
abbrev pub sizes_fit : List ℕ → Bool
sizes_fit ws = sizes_agree (back_in ws) (items_in ws) (constants_in ws) (length ws)

-- the items' words and the constants' words; what stands before them goes unread
abbrev pub item_part : List ℕ → List ℕ
item_part ws = take (2 * items_in ws) (drop (length ws - back_in ws) ws)

abbrev pub constant_part : List ℕ → List ℕ
constant_part ws = take (3 * constants_in ws) (drop (length ws - back_in ws + 2 * items_in ws) ws)

-- what opening an image answers: its parts, or the first of the questions 1 to 3 that gets a no
abbrev pub Opens : List ℕ → Result Image OpenRefusal → Type 0
Opens ws (Ok v) =
    (has_trailer ws ≡ true)
    × (edition_in ws ≡ Some v.edition)
    × (sizes_fit ws ≡ true)
    × (v.items.now ≡ item_part ws)
    × (v.constants.now ≡ constant_part ws)
    × (v.cells ≡ cells_in ws)
Opens ws (Err NoTrailer) = has_trailer ws ≡ false
Opens ws (Err NoEdition) = (has_trailer ws ≡ true) × (edition_in ws ≡ None)
Opens ws (Err NoFit) = (has_trailer ws ≡ true) × (sizes_fit ws ≡ false)

-- the sizes are at fault only where the question before them gets a yes
abbrev pub InTurn : List ℕ → Result Image OpenRefusal → Type 0
InTurn ws (Ok v) = known_edition ws ≡ true
InTurn ws (Err NoTrailer) = Unit {0}
InTurn ws (Err NoEdition) = known_edition ws ≡ false
InTurn ws (Err NoFit) = known_edition ws ≡ true
