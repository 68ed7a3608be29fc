-- What is shown of a refusal besides its line: the question in words, and what stands at the place.
use Rattle.std.specs.Prelude.{ℕ, ◌/◌, min, cond, ◌&&◌, List, [], ◌∷◌, ◌++◌, length, take, drop, Some, None, codes, Option, nat_le, nat_lt}
use Rattle.operand.specs.declared.edition.Edition.TheVariants.{Series90}
use Rattle.item.specs.declared.item.Item.{Item}
use Rattle.decode.specs.Words.{item_at}
use Rattle.script.specs.Texts.{item_text}
use Rattle.token.specs.Runs.{run_length}
use Rattle.told.specs.declared.Told.{Told}
use Rattle.explain.specs.Words.{words_for}

-- the token at a place of the text, its first sixty bytes at most
abbrev pub token_shown : List ℕ → ℕ → List ℕ
token_shown text p = cond (nat_lt p (length text)) (take (min (run_length (drop p text)) 60) (drop p text)) (codes "the end of the text")

abbrev pub item_or_unknown : Option Item → List ℕ
item_or_unknown None = codes "an unknown item"
item_or_unknown (Some i) = item_text i

-- the item at a place, two words each
abbrev pub item_shown : List ℕ → ℕ → List ℕ
item_shown items p = cond (nat_lt p (length items / 2)) (item_or_unknown (item_at Series90 items p)) (codes "the end of the list")

-- questions 5 to 11 have the place of an item, 19 and 20 that of a token
abbrev pub place_shown : Told → List ℕ → List ℕ → List ℕ
place_shown t text items =
    cond (nat_le 5 t.question && nat_le t.question 11) (item_shown items t.place)
    (cond (nat_le 19 t.question && nat_le t.question 20) (token_shown text t.place) [])

-- two lines
abbrev pub explanation : Told → List ℕ → List ℕ → List ℕ
explanation t text items = words_for t.question ++ (10 ∷ (place_shown t text items ++ (10 ∷ [])))
