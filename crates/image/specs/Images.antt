-- The words of an image: the items, the constants, the trailer.
use Rattle.std.specs.Prelude.{ℕ, ◌+◌, ◌*◌, List, [], ◌∷◌, ◌++◌, length}
use Rattle.operand.specs.Codes.{code_of}
use Rattle.operand.specs.Ranges.{edition_number}
use Rattle.operand.specs.declared.edition.Edition.{Edition}
use Rattle.item.specs.Items.{number_of, argument_of, item_cells}
use Rattle.item.specs.declared.item.Item.{Item}
use Rattle.image.specs.Constants.{low_word, high_word}
use Rattle.image.specs.declared.constant.Constant.{Constant}

abbrev pub most_items : ℕ
most_items = 4096

abbrev pub most_constants : ℕ
most_constants = 768

-- an item is its number and its argument
abbrev pub item_pair : Item → List ℕ
item_pair i = number_of i ∷ argument_of i ∷ []

unfoldable pub item_words : List Item → List ℕ
item_words [] = []
item_words (i ∷ is) = item_pair i ++ item_words is

-- a constant is its operand's code, the low word and the high word
abbrev pub constant_triple : Constant → List ℕ
constant_triple c = code_of c.operand ∷ low_word c ∷ high_word c ∷ []

unfoldable pub constant_words : List Constant → List ℕ
constant_words [] = []
constant_words (c ∷ cs) = constant_triple c ++ constant_words cs

-- the history cells over all block kinds that the items name
unfoldable pub cells_sum : List Item → ℕ
cells_sum [] = 0
cells_sum (i ∷ is) = item_cells i + cells_sum is

-- how many words an image has, which is also how far before its end the first item stands
abbrev pub image_length : List Item → List Constant → ℕ
image_length is cs = 2 * length is + 3 * length cs + 6

-- the six words at the end, the last of them AC31h
abbrev pub trailer_words : Edition → ℕ → ℕ → ℕ → ℕ → List ℕ
trailer_words e back items constants cells = back ∷ items ∷ constants ∷ cells ∷ edition_number e ∷ 44081 ∷ []

abbrev pub trailer_of : Edition → List Item → List Constant → List ℕ
trailer_of e is cs = trailer_words e (image_length is cs) (length is) (length cs) (cells_sum is)

unfoldable pub words_of : Edition → List Item → List Constant → List ℕ
words_of e is cs = item_words is ++ (constant_words cs ++ trailer_of e is cs)
