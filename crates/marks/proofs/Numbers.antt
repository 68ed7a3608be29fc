-- An item is known by its number.
use Rattle.std.proofs.Common.{◌≡◌, ℕ, ◌/◌, true, false, List, length, Some, None, Option, sym, refl, ap, ◌∙◌, subst, eq-eqb}
use Rattle.operand.specs.declared.edition.Edition.{Edition}
use Rattle.item.specs.declared.item.Item.{Item}
use Rattle.item.specs.declared.item.Item.TheVariants.{Nop, Start, Open, Close, Operand, Operator, Compare, Assign, EndIf, Call, Kind, Pin, Direct, Mark, End}
use Rattle.item.specs.Items.{number_of}
use Rattle.decode.specs.Decoded.{item_decoded}
use Rattle.decode.proofs.Exact.{decoded_exactly}
use Rattle.std.proofs.lemmas.Bool.{eqb-true}
use Rattle.decode.specs.Words.{item_at}
use Rattle.marks.specs.Places.{First}
use Rattle.marks.specs.Marks.{marks, is_mark, mark_at, next_mark, Next}
use Rattle.marks.proofs.Firsts.{exact}
use Rattle.marks.specs.Cells.{cells_asked}

-- what holds of every item but those with a number holds of what is decoded under another
module _ {A : Type 0} (f : Option Item → A) (a : A) (n : ℕ) (none : f None ≡ a) (other : (i : Item) → (number_of i ≡ n → ⊥) → f (Some i) ≡ a) where
  pub unless : (e : Edition) (m x : ℕ) → (m ≡ n → ⊥) → f (item_decoded e m x) ≡ a
  unless e m x h = by (item_decoded e m x) refl
    where
      by : (o : Option Item) → o ≡ item_decoded e m x → f o ≡ a
      by None q = none
      by (Some i) q = other i (λ k. h (sym (decoded_exactly e m x (Some i) q).1 ∙ k))

pub unmarked : (m : ℕ) (i : Item) → (number_of i ≡ 50 → ⊥) → is_mark m (Some i) ≡ false
unmarked m Nop h = refl
unmarked m (Start t) h = refl
unmarked m (Open t) h = refl
unmarked m Close h = refl
unmarked m (Operand o) h = refl
unmarked m (Operator o) h = refl
unmarked m (Compare c) h = refl
unmarked m (Assign f o) h = refl
unmarked m EndIf h = refl
unmarked m (Call n) h = refl
unmarked m (Kind b) h = refl
unmarked m (Pin o) h = refl
unmarked m (Direct w) h = refl
unmarked m (Mark n) h = absurd (h refl)
unmarked m End h = refl

pub no_cells : (i : Item) → (number_of i ≡ 41 → ⊥) → cells_asked (Some i) ≡ 0
no_cells Nop h = refl
no_cells (Start t) h = refl
no_cells (Open t) h = refl
no_cells Close h = refl
no_cells (Operand o) h = refl
no_cells (Operator o) h = refl
no_cells (Compare c) h = refl
no_cells (Assign f o) h = refl
no_cells EndIf h = refl
no_cells (Call n) h = refl
no_cells (Kind b) h = absurd (h refl)
no_cells (Pin o) h = refl
no_cells (Direct w) h = refl
no_cells (Mark m) h = refl
no_cells End h = refl

-- the test of a mark decides whether it is one
pub is_marked : (m : ℕ) (o : Option Item) → is_mark m o ≡ true → o ≡ Some (Mark m)
is_marked m None h = cc
is_marked m (Some i) h = by i h
  where
    apart : {P : Type 0} → false ≡ true → P
    apart h = cc

    by : (i : Item) → marks m i ≡ true → Some i ≡ Some (Mark m)
    by Nop h = apart h
    by (Start t) h = apart h
    by (Open t) h = apart h
    by Close h = apart h
    by (Operand o) h = apart h
    by (Operator o) h = apart h
    by (Compare c) h = apart h
    by (Assign f o) h = apart h
    by EndIf h = apart h
    by (Call n) h = apart h
    by (Kind b) h = apart h
    by (Pin o) h = apart h
    by (Direct w) h = apart h
    by (Mark n) h = ap (λ (k : ℕ). Some (Mark k)) (eqb-true n m h)
    by End h = apart h

pub marked_is : (m : ℕ) (o : Option Item) → o ≡ Some (Mark m) → is_mark m o ≡ true
marked_is m o h = ap (is_mark m) h ∙ eq-eqb m m refl

in_words : (e : Edition) (ws : List ℕ) (p m : ℕ) (r : Option ℕ) → First (mark_at e ws m) p (length ws / 2) r → Next e ws p m r
in_words e ws p m (Some q) (a, b, c, d) = (a, b, is_marked m (item_at e ws q) c, λ k i j t. d k i j (marked_is m (item_at e ws k) t))
in_words e ws p m None d = λ k i j t. d k i j (marked_is m (item_at e ws k) t)

pub next_exact : (e : Edition) (ws : List ℕ) (p m : ℕ) → Next e ws p m (next_mark e ws p m)
next_exact e ws p m = in_words e ws p m (next_mark e ws p m) (exact (mark_at e ws m) (length ws / 2) p)

pub next_so : (e : Edition) (ws : List ℕ) (p m : ℕ) (r : Option ℕ) → r ≡ next_mark e ws p m → Next e ws p m r
next_so e ws p m r h = subst (Next e ws p m) (sym h) (next_exact e ws p m)
