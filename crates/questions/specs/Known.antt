-- Question 5: each item is known and its argument in range.
use Rattle.std.specs.Prelude.{◌≡◌, ℕ, List}
use Rattle.operand.specs.declared.edition.Edition.{Edition}
use Rattle.item.specs.declared.item.Item.{Item}
use Rattle.image.specs.Images.{item_words}
use Rattle.decode.specs.Decoded.{Lawful}
use Rattle.questions.specs.Everywhere.{Each}

-- the words are those of items that the edition knows
abbrev pub Known : Edition → List ℕ → List Item → Type 0
Known e ws xs = (item_words xs ≡ ws) × Each (Lawful e) xs
