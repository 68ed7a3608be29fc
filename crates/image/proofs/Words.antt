-- The words of a list that grows, and how many they are.
use Rattle.std.proofs.Common.{◌≡◌, ℕ, ◌+◌, ◌*◌, ◌<◌, List, [], ◌∷◌, ◌++◌, length, get_or, take, drop, ◌≤◌, append-nil, sym, refl, ap, ◌∙◌, arith, length-append}
use Rattle.std.proofs.lemmas.List.{take_more, take-append-drop}
use Rattle.std.proofs.lemmas.List.Sums.{sum_by-cons}
use Rattle.std.specs.List.{flat_map, sum_by}
use Rattle.std.proofs.lemmas.Grind.{flat_map-append}
use Rattle.operand.specs.declared.edition.Edition.{Edition}
use Rattle.item.specs.Items.{item_cells}
use Rattle.item.specs.declared.item.Item.{Item}
use Rattle.image.specs.Images.{item_pair, item_words, constant_triple, constant_words, cells_sum, image_length, words_of}
use Rattle.image.specs.declared.constant.Constant.{Constant}

-- the cells, as the library's sum
pub cells_by : (xs : List Item) → sum_by item_cells xs ≡ cells_sum xs
unfolding cells_sum
cells_by [] = refl
cells_by (x ∷ xs) = sum_by-cons item_cells x xs ∙ ap (λ n. item_cells x + n) (cells_by xs)

-- the words of things of one kind

pub items_flat : (xs : List Item) → flat_map item_pair xs ≡ item_words xs
unfolding item_words
items_flat [] = refl
items_flat (x ∷ xs) = ap (λ z. item_pair x ++ z) (items_flat xs)

pub constants_flat : (xs : List Constant) → flat_map constant_triple xs ≡ constant_words xs
unfolding constant_words
constants_flat [] = refl
constants_flat (x ∷ xs) = ap (λ z. constant_triple x ++ z) (constants_flat xs)

-- one more of them
pub flat_more : {A : Type 0} (f : A → List ℕ) (xs : List A) (i : ℕ) (d : A) → i < length xs → flat_map f (take i xs) ++ f (get_or xs i d) ≡ flat_map f (take (i + 1) xs)
flat_more f xs i d l =
    let one : flat_map f (get_or xs i d ∷ []) ≡ f (get_or xs i d) = append-nil (f (get_or xs i d)) in
    sym (ap (flat_map f) (take_more xs i d l) ∙ flat_map-append f (take i xs) (get_or xs i d ∷ []) ∙ ap (λ z. flat_map f (take i xs) ++ z) one)

-- so many of them have no more words than all
pub flat_within : {A : Type 0} (f : A → List ℕ) (xs : List A) (i : ℕ) → length (flat_map f (take i xs)) ≤ length (flat_map f xs)
flat_within f xs i =
    let all : length (flat_map f xs) ≡ length (flat_map f (take i xs)) + length (flat_map f (drop i xs)) =
    ap (λ z. length (flat_map f z)) (sym (take-append-drop i xs)) ∙ ap length (flat_map-append f (take i xs) (drop i xs)) ∙ length-append _ _ in
    omega arith

pub item_words_length : (xs : List Item) → length (item_words xs) ≡ 2 * length xs
unfolding item_words
item_words_length [] = refl
item_words_length (x ∷ xs) = omega (arith, item_words_length xs)

pub constant_words_length : (xs : List Constant) → length (constant_words xs) ≡ 3 * length xs
unfolding constant_words
constant_words_length [] = refl
constant_words_length (x ∷ xs) = omega (arith, constant_words_length xs)

pub words_length : (e : Edition) (is : List Item) (cs : List Constant) → image_length is cs ≡ length (words_of e is cs)
unfolding words_of
words_length e is cs =
    simp length-append (omega (arith, item_words_length is, constant_words_length cs))

pub flat_items : (xs : List Item) → length (flat_map item_pair xs) ≡ 2 * length xs
flat_items xs = ap length (items_flat xs) ∙ item_words_length xs

pub flat_constants : (xs : List Constant) → length (flat_map constant_triple xs) ≡ 3 * length xs
flat_constants xs = ap length (constants_flat xs) ∙ constant_words_length xs
