-- Bytes laid behind one another.
use Rattle.std.proofs.Common.{◌≡◌, ℕ, ◌+◌, ◌-◌, ◌^◌, ◌<◌, ◌≤◌, min, Bool, true, false, ltb, List, [], ◌∷◌, ◌++◌, length, take, drop, set, ℤ, pos, negsuc, nat_abs, decimal, sym, refl, ap, ◌∙◌, subst, append_assoc, append-nil, arith, length-append, length-set, take-append-drop}
use lib.Signed.{lt_z}
use Rattle.std.specs.Fmt.{signed_decimal}
use Rattle.std.proofs.lemmas.Bool.Decides.{nat_tests}
use borrow.Rule.Slice.PartMut.{put_mid}
use Rattle.std.proofs.lemmas.List.{take_more_set, drop-set-lt, drop-drop, set_past}
use Rattle.std.proofs.lemmas.Slice.{put_mid-paste, take-put_mid, drop-put_mid}
use Rattle.std.proofs.lemmas.List.Edits.{length-paste}
use Rattle.lay.specs.declared.pen.Pen.{Pen}
use Rattle.lay.specs.Lays.{Lays, Puts}

one : (old : List ℕ) (i b next : ℕ) → next ≡ min (i + 1) (2 ^ 64 - 1) → i < length old → length old < 2 ^ 64 → Lays old i (b ∷ []) (set old i b) next
one old i b next e l h = record {
  counts = e;
  front = λ _. take_more_set old i b l;
  rest = λ _. drop-set-lt (i + 1) old i b (omega arith);
  same_length = length-set old i b;
  in_memory = h;
}

-- no room, and nothing written
past : (old : List ℕ) (i next : ℕ) (bs : List ℕ) → next ≡ min (i + length bs) (2 ^ 64 - 1) → (i + length bs ≤ length old → ⊥) → length old < 2 ^ 64 → Lays old i bs old next
past old i next bs e l h = record { counts = e; front = λ f. absurd (l f); rest = λ f. absurd (l f); same_length = refl; in_memory = h }

-- one byte, room or not
pub byte_laid : (old new : List ℕ) (i b next : ℕ) → new ≡ set old i b → next ≡ min (i + 1) (2 ^ 64 - 1) → length old < 2 ^ 64 → Lays old i (b ∷ []) new next
byte_laid old new i b next w e h = by (ltb i (length old)) refl
  where
    by : (t : Bool) → ltb i (length old) ≡ t → Lays old i (b ∷ []) new next
    by true t = subst (λ (xs : List ℕ). Lays old i (b ∷ []) xs next) (sym w) (one old i b next e (grind (arith, nat_tests)) h)
    by false t =
        let none : length old ≤ i = grind (arith, nat_tests) in
        subst (λ (xs : List ℕ). Lays old i (b ∷ []) xs next) (sym (w ∙ set_past old i b none)) (past old i next (b ∷ []) e (λ f. omega arith) h)

pub none : (old : List ℕ) (i : ℕ) → i < 2 ^ 64 → length old < 2 ^ 64 → Lays old i [] old i
none old i l h =
    let k : i + 0 ≡ i = omega arith in
    record {
      counts = omega arith;
      front = λ _. ap (λ m. take m old) k ∙ sym (append-nil (take i old));
      rest = λ _. refl;
      same_length = refl;
      in_memory = h;
    }

pub part : (old ys bs : List ℕ) (at k next : ℕ) → next ≡ min (at + length bs) (2 ^ 64 - 1) → ys ≡ bs → k ≡ length bs → at + length bs ≤ length old → length old < 2 ^ 64 → Lays old at bs (put_mid at k old ys) next
part old ys bs at k next o e n room h =
    let same : length ys ≡ length bs = ap length e in
    record {
      counts = o;
      front = λ _. take-put_mid at k old ys (at + length bs) (omega arith) (omega arith) ∙ ap (λ z. take at old ++ z) e;
      rest = λ _. drop-put_mid at k old ys (at + length bs) (omega arith) (omega arith) (omega arith);
      same_length = ap length (put_mid-paste at k old ys bs k e refl n) ∙ length-paste old at bs k (omega arith) (omega arith);
      in_memory = h;
    }

-- some bytes, and behind them some more
module _ {a b c : List ℕ} {i j k : ℕ} {xs ys : List ℕ} (p : Lays a i xs b j) (q : Lays b j ys c k) where
  all : length (xs ++ ys) ≡ length xs + length ys
  all = length-append xs ys

  module _ (room : i + length (xs ++ ys) ≤ length a) where
    at_join : j ≡ i + length xs
    at_join = let n = all in omega (arith, p.counts, p.in_memory)

    at_end : j + length ys ≡ i + length (xs ++ ys)
    at_end = let n = all in let e = at_join in omega arith

    more_room : j + length ys ≤ length b
    more_room = let e = at_end in omega (arith, p.same_length)

    first_room : i + length xs ≤ length a
    first_room = let n = all in omega arith

    fronts : take (i + length (xs ++ ys)) c ≡ take i a ++ (xs ++ ys)
    fronts =
        ap (λ m. take m c) (sym at_end) ∙ (q.front more_room ∙ (ap (λ m. take m b ++ ys) at_join ∙ (ap (λ l. l ++ ys) (p.front first_room) ∙ append_assoc (take i a) xs ys)))

    rests : drop (i + length (xs ++ ys)) c ≡ drop (i + length (xs ++ ys)) a
    rests =
        let n = all in
        let e : (i + length xs) + length ys ≡ i + length (xs ++ ys) = omega arith in
        ap (λ m. drop m c) (sym at_end) ∙ (q.rest more_room ∙ (ap (λ m. drop m b) (at_end ∙ sym e) ∙ (sym (drop-drop (length ys) (i + length xs) b)
        ∙ (ap (drop (length ys)) (p.rest first_room) ∙ (drop-drop (length ys) (i + length xs) a ∙ ap (λ m. drop m a) e)))))

  pub behind : Lays a i (xs ++ ys) c k
  behind =
      let n = all in
      record {
        counts = omega (arith, p.counts, q.counts);
        front = fronts;
        rest = rests;
        same_length = q.same_length ∙ p.same_length;
        in_memory = p.in_memory;
      }

pub read_as : {a b : List ℕ} {i j : ℕ} {xs ys : List ℕ} → xs ≡ ys → Lays a i xs b j → Lays a i ys b j
read_as {a} {b} {i} {j} e p = subst (λ (zs : List ℕ). Lays a i zs b j) e p

-- what was laid from the start on: the front of the buffer, and the rest is as before
pub whole : (old new bs : List ℕ) (n : ℕ) → Lays old 0 bs new n → length bs ≤ length old → (n ≡ length bs) × (new ≡ bs ++ drop (length bs) old)
whole old new bs n p l =
    let z : 0 + length bs ≡ length bs = omega arith in
    let k : 0 + length bs ≤ length old = omega arith in
    let f : take (length bs) new ≡ bs = ap (λ m. take m new) (sym z) ∙ p.front k in
    let g : drop (length bs) new ≡ drop (length bs) old = ap (λ m. drop m new) (sym z) ∙ (p.rest k ∙ ap (λ m. drop m old) z) in
    (omega (arith, p.counts, p.in_memory), sym (take-append-drop (length bs) new) ∙ (ap (λ y. y ++ drop (length bs) new) f ∙ ap (λ y. bs ++ y) g))

-- a value below 0
pub minus : (z : ℤ) (n : ℕ) → n ≡ nat_abs z → lt_z z (pos 0) ≡ true → signed_decimal z ≡ 45 ∷ decimal n
minus (pos m) n e t = absurd (grind arith)
minus (negsuc m) n e t = ap (λ k. 45 ∷ decimal k) (sym e)

-- what a pen puts behind what it has put
pub then : {a b c : Pen} {xs ys : List ℕ} → Puts a xs b → Puts b ys c → Puts a (xs ++ ys) c
then p q = record { lays = behind p.lays q.lays; lender = q.lender ∙ p.lender }

pub puts_as : {a b : Pen} {xs ys : List ℕ} → xs ≡ ys → Puts a xs b → Puts a ys b
puts_as {a} {b} e p = subst (λ (zs : List ℕ). Puts a zs b) e p

-- the same pen, called by another name
pub from_pen : {a a' b : Pen} {xs : List ℕ} → a ≡ a' → Puts a xs b → Puts a' xs b
from_pen {b = b} {xs = xs} e p = subst (λ (o : Pen). Puts o xs b) e p

-- nothing put yet
pub nothing : (a : Pen) → Puts a [] a
nothing a = record { lays = none a.out.now a.at a.counted a.in_memory; lender = refl }
