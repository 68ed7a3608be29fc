-- Where a part ends, and what the next one is.
use Rattle.std.specs.Prelude.{◌≡◌, ℕ, suc, ◌<◌, ◌≤◌, false, cond, get_or, List, [], ◌∷◌, length, drop, Some, None, Option}
use Rattle.token.specs.declared.cut.Piece.{Piece}
use Rattle.token.specs.declared.cut.Parts.{Parts}
use Rattle.character.specs.Classes.{is_separator}
use Rattle.token.specs.Cuts.{Part, parts_of}

-- how many bytes in front are no separators
abbrev pub run_length : List ℕ → ℕ
run_length [] = 0
run_length (c ∷ cs) = cond (is_separator c) 0 (suc (run_length cs))

abbrev pub piece_part : Piece → Part
piece_part w = record { place = w.place; bytes = w.bytes.now }

-- the parts that are still to come
abbrev pub parts_left : Parts → List Part
parts_left p = parts_of p.from (drop p.from p.text.now)

-- the next part begins at a place from `from` on, with separators alone in front of it; or no part is left
abbrev pub Begins : List ℕ → ℕ → Option ℕ → Type 0
Begins bs from None = parts_of from (drop from bs) ≡ []
Begins bs from (Some n) = (parts_of from (drop from bs) ≡ parts_of n (drop n bs)) × (from ≤ n) × (n < length bs) × (is_separator (get_or bs n 0) ≡ false)
