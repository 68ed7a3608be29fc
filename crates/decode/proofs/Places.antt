-- Items by place, and items as a list.
use Rattle.std.proofs.Common.{◌≡◌, ℕ, suc, ◌+◌, ◌*◌, ◌/◌, ◌<◌, List, [], ◌∷◌, length, get_or, take, drop, Option, sym, refl, ap, ◌∙◌, arith, length-drop, drop-cons, ◌≤◌, Bool, true, false, ltb}
use Rattle.std.proofs.lemmas.Bool.{ltb-true}
use Rattle.std.proofs.lemmas.Bool.Decides.{nat_tests}
use Rattle.operand.specs.declared.edition.Edition.{Edition}
use Rattle.item.specs.declared.item.Item.{Item}
use Rattle.decode.specs.Decoded.{item_decoded}
use Rattle.decode.specs.Words.{item_at, items_from, items_of}

two : (e : Edition) (n a : ℕ) (ws : List ℕ) → items_of e (n ∷ a ∷ ws) ≡ item_decoded e n a ∷ items_of e ws
unfolding items_of
two e n a ws = refl

pub items_more : (e : Edition) (ws : List ℕ) (i : ℕ) → i < length ws / 2 → items_from e ws i ≡ item_at e ws i ∷ items_from e ws (i + 1)
items_more e ws i h =
    let a : 2 * i < length ws = omega arith in
    let b : suc (2 * i) < length ws = omega arith in
    let one : suc (2 * i) ≡ 2 * i + 1 = omega arith in
    let next : suc (suc (2 * i)) ≡ 2 * (i + 1) = omega arith in
    ap (items_of e) (drop-cons ws (2 * i) 0 a ∙ ap (λ (xs : List ℕ). get_or ws (2 * i) 0 ∷ xs) (drop-cons ws (suc (2 * i)) 0 b))
    ∙ (two e (get_or ws (2 * i) 0) (get_or ws (suc (2 * i)) 0) (drop (suc (suc (2 * i))) ws)
    ∙ (λ j. item_decoded e (get_or ws (2 * i) 0) (get_or ws (one j) 0) ∷ items_of e (drop (next j) ws)))

-- less than one item
pub short : (e : Edition) (ws : List ℕ) → length ws < 2 → items_of e ws ≡ []
unfolding items_of
short e [] h = refl
short e (n ∷ []) h = refl
short e (n ∷ a ∷ ws) h = absurd (omega arith)

past : (e : Edition) (ws : List ℕ) (i : ℕ) → length ws / 2 ≤ i → items_from e ws i ≡ []
past e ws i l = short e (drop (2 * i) ws) (simp length-drop (omega arith))

pub items_all : (e : Edition) (ws : List ℕ) (i : ℕ) → i ≡ length ws / 2 → items_from e ws i ≡ []
items_all e ws i q = past e ws i (omega arith)

pub items_length : (e : Edition) (ws : List ℕ) → length (items_of e ws) ≡ length ws / 2
unfolding items_of
items_length e [] = refl
items_length e (n ∷ []) = refl
items_length e (n ∷ a ∷ ws) = let h = items_length e ws in omega arith

-- the first item, and those behind it
pub items_next : (e : Edition) (ws rest : List ℕ) (i : Option Item) → rest ≡ drop 2 ws → length rest + 2 ≡ length ws
    → i ≡ item_decoded e (get_or (take 2 ws) 0 0) (get_or (take 2 ws) 1 0) → items_of e ws ≡ i ∷ items_of e rest
unfolding items_of
items_next e [] rest i r l q = absurd (omega arith)
items_next e (n ∷ []) rest i r l q = absurd (omega arith)
items_next e (n ∷ a ∷ ws) rest i r l q = λ j. sym q j ∷ items_of e (sym r j)

-- a walk over the items stands at place p: the next item is the one there, and those behind it stand from the next place on
pub item_here : (e : Edition) (ws : List ℕ) (p : ℕ) (xs ys : List (Option Item)) (x : Option Item) → xs ≡ items_from e ws p → xs ≡ x ∷ ys
    → (p < length ws / 2) × (x ≡ item_at e ws p) × (ys ≡ items_from e ws (p + 1))
item_here e ws p xs ys x h q = by (ltb p (length ws / 2)) refl
  where
    by : (b : Bool) → ltb p (length ws / 2) ≡ b → (p < length ws / 2) × (x ≡ item_at e ws p) × (ys ≡ items_from e ws (p + 1))
    by true t =
        let l : p < length ws / 2 = ltb-true p (length ws / 2) t in
        let same : x ∷ ys ≡ item_at e ws p ∷ items_from e ws (p + 1) = sym q ∙ (h ∙ items_more e ws p l) in
        (l, cc, cc)
    by false t =
        let l : length ws / 2 ≤ p = grind (arith, nat_tests) in
        let none = ap length (sym q ∙ h ∙ past e ws p l) in
        absurd (omega arith)

-- no item is left: the walk is at the end
pub items_end : (e : Edition) (ws : List ℕ) (p : ℕ) (xs : List (Option Item)) → xs ≡ items_from e ws p → xs ≡ [] → length ws / 2 ≤ p
items_end e ws p xs h q = by (ltb p (length ws / 2)) refl
  where
    by : (b : Bool) → ltb p (length ws / 2) ≡ b → length ws / 2 ≤ p
    by true t =
        let more = ap length (sym q ∙ (h ∙ items_more e ws p (ltb-true p (length ws / 2) t))) in
        absurd (omega arith)
    by false t = grind (arith, nat_tests)
