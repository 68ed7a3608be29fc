-- Words laid into a buffer, after one another.
use Rattle.std.proofs.Common.{◌≡◌, ℕ, ◌+◌, ◌≤◌, List, [], ◌++◌, length, take, drop, sym, ap, ◌∙◌, append_assoc, add-zero, zero-add, arith, length-append}
use borrow.Rule.Slice.PartMut.{put_mid, post_of}
use Rattle.std.proofs.lemmas.List.{length-take-le, take_at, drop_at, drop-drop, take-append-drop}
use Rattle.image.specs.Writes.{laid, first_laid}

-- a copy into a part of the buffer
pub laid_part : (old ys words : List ℕ) (at k : ℕ) → ys ≡ words → k ≡ length words → put_mid at k old ys ≡ laid old at words
laid_part old ys words at k same long =
    ap (λ z. take at old ++ (z ++ post_of at k old)) same
    ∙ ap (λ z. take at old ++ (words ++ z)) (drop-drop k at old ∙ ap (λ n. drop (at + n) old) long)

pub laid_none : (old : List ℕ) (at : ℕ) (words : List ℕ) → words ≡ [] → old ≡ laid old at words
laid_none old at words e =
    sym (ap (laid old at) e ∙ ap (λ n. take at old ++ drop n old) (add-zero at) ∙ take-append-drop at old)

-- words behind those that are laid already
pub laid_more : (old : List ℕ) (from at : ℕ) (xs ys all : List ℕ) → at ≡ from + length xs → at ≤ length old → xs ++ ys ≡ all → laid (laid old from xs) at ys ≡ laid old from all
laid_more old from at xs ys all place room whole =
    let rest : List ℕ = drop (from + length xs) old in
    let front : List ℕ = take from old ++ xs in
    let before : List ℕ = laid old from xs in
    let after : List ℕ = drop (from + length all) old in
    let split : before ≡ front ++ rest = sym (append_assoc (take from old) xs rest) in
    let long : length front ≡ at = length-append (take from old) xs ∙ ap (λ n. n + length xs) (length-take-le from old (omega arith)) ∙ sym place in
    let sum : (from + length xs) + length ys ≡ from + length all = omega (arith, length-append xs ys, ap length whole) in
    let head : take at before ≡ front = ap (take at) split ∙ take_at front rest at long in
    let tail : drop (at + length ys) before ≡ after =
    sym (drop-drop (length ys) at before) ∙ ap (drop (length ys)) (ap (drop at) split ∙ drop_at front rest at long)
    ∙ drop-drop (length ys) (from + length xs) old ∙ ap (λ n. drop n old) sum in
    ap (λ z. z ++ (ys ++ drop (at + length ys) before)) head
    ∙ ap (λ z. front ++ (ys ++ z)) tail
    ∙ append_assoc (take from old) xs (ys ++ after)
    ∙ ap (λ z. take from old ++ z) (sym (append_assoc xs ys after))
    ∙ ap (λ z. take from old ++ (z ++ after)) whole

pub laid_first : (old words : List ℕ) → laid old 0 words ≡ first_laid old words
laid_first old words = ap (λ n. words ++ drop n old) (zero-add (length words))
