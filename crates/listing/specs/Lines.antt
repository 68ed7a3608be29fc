-- The listing of an image: a line for each item, then one for each constant.
use Rattle.std.specs.Prelude.{ℕ, List, [], ◌∷◌, ◌++◌, Some, None, Option}
use Rattle.item.specs.declared.item.Item.{Item}
use Rattle.image.specs.declared.constant.Constant.{Constant}
use Rattle.decode.specs.Words.{items_of}
use Rattle.constants.specs.Decoded.{constants_of}
use Rattle.script.specs.Texts.{item_text, constant_text}
use Rattle.checker.specs.Verdict.{Parts}

-- each line is ended by 0Ah; what is not known has none
abbrev pub line_of : {A : Type 0} → (A → List ℕ) → Option A → List ℕ
line_of text None = []
line_of text (Some x) = text x ++ (10 ∷ [])

unfoldable pub lines_of : {A : Type 0} → (A → List ℕ) → List (Option A) → List ℕ
lines_of text [] = []
lines_of text (x ∷ xs) = line_of text x ++ lines_of text xs

abbrev pub item_lines : List (Option Item) → List ℕ
item_lines = lines_of item_text

abbrev pub constant_lines : List (Option Constant) → List ℕ
constant_lines = lines_of constant_text

abbrev pub listing_of : Parts → List ℕ
listing_of p = item_lines (items_of p.edition p.items) ++ constant_lines (constants_of p.edition p.constants)
