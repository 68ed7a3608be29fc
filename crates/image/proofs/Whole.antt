-- Items, constants and trailer, laid one after another from the start, are the image.
use Rattle.std.proofs.Common.{◌≡◌, ℕ, ◌+◌, ◌*◌, ◌≤◌, List, ◌++◌, length, zero-add, refl, ap, ◌∙◌, append_assoc, arith, length-append}
use Rattle.operand.specs.declared.edition.Edition.{Edition}
use Rattle.item.specs.declared.item.Item.{Item}
use Rattle.image.specs.Images.{item_pair, item_words, constant_triple, constant_words, cells_sum, image_length, trailer_words, trailer_of, words_of}
use Rattle.image.specs.Writes.{laid, first_laid}
use Rattle.image.specs.declared.constant.Constant.{Constant}
use Rattle.image.specs.declared.write.Written.{Written}
use Rattle.image.proofs.Laid.{laid_more, laid_first}
use Rattle.image.proofs.Words.{items_flat, constants_flat, item_words_length, constant_words_length}
use Rattle.std.specs.List.{flat_map}

abbrev counted : Edition → Written → List ℕ
counted e k = trailer_words e k.length k.items k.constants k.cells

pub counted_trailer : (e : Edition) (is : List Item) (cs : List Constant) (k : Written)
    → k.length ≡ image_length is cs → k.items ≡ length is → k.constants ≡ length cs → k.cells ≡ cells_sum is
    → counted e k ≡ trailer_of e is cs
counted_trailer e is cs k long items constants cells = cc

pub whole_image : (e : Edition) (is : List Item) (cs : List Constant) (k : Written) (old one two three : List ℕ) (after_items after-constants : ℕ)
    → counted e k ≡ trailer_of e is cs
    → image_length is cs ≤ length old
    → after_items ≡ 0 + length (flat_map item_pair is) → one ≡ laid old 0 (flat_map item_pair is)
    → after-constants ≡ after_items + length (flat_map constant_triple cs) → two ≡ laid one after_items (flat_map constant_triple cs)
    → three ≡ laid two after-constants (counted e k)
    → three ≡ first_laid old (words_of e is cs)
unfolding words_of
whole_image e is cs k old one two three m n trailer room at-m first at_n second third =
    let items : List ℕ = item_words is in
    let both : List ℕ = items ++ constant_words cs in
    let flat : flat_map item_pair is ≡ items = items_flat is in
    let flats : flat_map constant_triple cs ≡ constant_words cs = constants_flat cs in
    let before : m ≡ length items = at-m ∙ zero-add _ ∙ ap length flat in
    let behind : n ≡ m + length (constant_words cs) = at_n ∙ ap (λ z. m + length z) flats in
    let long-cs : length (constant_words cs) ≡ 3 * length cs = constant_words_length cs in
    let long : length items ≡ 2 * length is = item_words_length is in
    let longer : length both ≡ 2 * length is + 3 * length cs = length-append items (constant_words cs) ∙ (omega arith) in
    let joined : two ≡ laid old 0 both =
    second ∙ ap (λ z. laid one m z) flats ∙ ap (λ z. laid z m (constant_words cs)) (first ∙ ap (laid old 0) flat) ∙ laid_more old 0 m items (constant_words cs) both (omega arith) (omega arith) refl in
    third
    ∙ ap (λ z. laid z n (counted e k)) joined
    ∙ laid_more old 0 n both (counted e k) (words_of e is cs) (omega arith) (omega arith) (append_assoc items (constant_words cs) (counted e k) ∙ ap (λ z. items ++ (constant_words cs ++ z)) trailer)
    ∙ laid_first old (words_of e is cs)
