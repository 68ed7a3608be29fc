-- The reader reads what a text writes.
use Rattle.std.proofs.Common.{◌≡◌, ℕ, List, [], ◌∷◌, ◌++◌, None, Option, sym, refl, ap, ◌∙◌, append_assoc, append-nil}
use Rattle.std.proofs.lemmas.Bool.{le-leb}
use Rattle.operand.specs.declared.edition.Edition.{Edition}
use Rattle.operand.specs.declared.operand.Operand.{Operand}
use Rattle.item.specs.declared.mnemonic.Mnemonic.{Mnemonic}
use Rattle.item.specs.declared.item.Item.{Item}
use Rattle.image.specs.declared.constant.Constant.{Constant}
use Rattle.token.specs.Tokens.{word, Seen}
use Rattle.follow.specs.declared.state.Asks.{Asks}
use Rattle.reader.specs.Reading.{Read, list, read_on, unread}
use Rattle.writing.specs.Texts.{at, Alone, Constants, Writes}
use Rattle.writing.proofs.Ranges.{in_range, all_but_last, one_less}

-- what was read before the end of the items
abbrev early : Asks → ℕ → List Item → Read
early a n xs = record { items = xs; constants = []; state = record { asks = a; pins = n; last = None } }

module _ (e : Edition) (end : ℕ) where
  -- a mnemonic that is an item by itself puts it
  alone_step : {m : Mnemonic} {i : Item} → Alone m i → (n p : ℕ) (ts : List Seen) (xs : List Item)
      → read_on e end (at p (word m) ∷ ts) (early Asks.Entry n xs) ≡ read_on e end ts (early Asks.Entry n (xs ++ (i ∷ [])))
  unfolding read_on
  alone_step Alone.nop n p ts xs = refl
  alone_step Alone.start n p ts xs = refl
  alone_step Alone.opening n p ts xs = refl
  alone_step Alone.closing n p ts xs = refl
  alone_step Alone.operator n p ts xs = refl
  alone_step Alone.compare n p ts xs = refl
  alone_step Alone.end_if n p ts xs = refl

  -- it does the same behind a call
  alone_behind : {m : Mnemonic} {i : Item} → Alone m i → (n p : ℕ) (ts : List Seen) (xs : List Item)
      → read_on e end (at p (word m) ∷ ts) (early Asks.CallNumber n xs) ≡ read_on e end (at p (word m) ∷ ts) (early Asks.Entry n xs)
  unfolding read_on
  alone_behind Alone.nop n p ts xs = refl
  alone_behind Alone.start n p ts xs = refl
  alone_behind Alone.opening n p ts xs = refl
  alone_behind Alone.closing n p ts xs = refl
  alone_behind Alone.operator n p ts xs = refl
  alone_behind Alone.compare n p ts xs = refl
  alone_behind Alone.end_if n p ts xs = refl

  -- what a text writes is read on behind a call as anywhere
  unnumbered : {n : ℕ} {ts : List Seen} {is : List Item} {cs : List Constant} → Writes e n ts is cs → (xs : List Item)
      → read_on e end ts (early Asks.CallNumber n xs) ≡ read_on e end ts (early Asks.Entry n xs)
  unfolding read_on
  unnumbered Writes.nothing xs = refl
  unnumbered (Writes.alone {n} {p} {ts = ts} a w) xs = alone_behind a n p ts xs
  unnumbered (Writes.call w) xs = refl
  unnumbered (Writes.numbered k w) xs = refl
  unnumbered (Writes.named w) xs = refl
  unnumbered (Writes.operand o w) xs = refl
  unnumbered (Writes.pin o w) xs = refl
  unnumbered (Writes.assign o w) xs = refl
  unnumbered (Writes.direct h w) xs = refl
  unnumbered (Writes.mark h w) xs = refl
  unnumbered (Writes.end c) xs = refl

  -- constants from here to the text's end
  reads_constants : {last : Option Operand} {ts : List Seen} {cs : List Constant} → Constants e last ts cs → (n : ℕ) (xs : List Item) (ys : List Constant)
      → read_on e end ts (record { items = xs; constants = ys; state = record { asks = Asks.Constant; pins = n; last = last } }) ≡ list xs (ys ++ cs)
  unfolding read_on
  reads_constants Constants.none n xs ys = ap (list xs) (sym (append-nil ys))
  reads_constants (Constants.more {w = w} {cs = cs} h o f v c) n xs ys =
      rw (h, o, f, in_range _ _ w v) (reads_constants c n xs _ ∙ ap (list xs) (append_assoc ys _ cs))

  -- one item more
  put_one : (xs is : List Item) (i : Item) (cs : List Constant) → list ((xs ++ (i ∷ [])) ++ is) cs ≡ list (xs ++ (i ∷ is)) cs
  put_one xs is i cs = ap (λ (l : List Item). list l cs) (append_assoc xs (i ∷ []) is)

  -- items from here on
  reads_on : {n : ℕ} {ts : List Seen} {is : List Item} {cs : List Constant} → Writes e n ts is cs → (xs : List Item)
      → read_on e end ts (early Asks.Entry n xs) ≡ list (xs ++ is) cs
  unfolding read_on
  reads_on Writes.nothing xs = ap (λ (l : List Item). list l []) (sym (append-nil xs))
  reads_on (Writes.alone {n} {p} {ts = ts} a w) xs = alone_step a n p ts xs ∙ reads_on w _ ∙ put_one xs _ _ _
  reads_on (Writes.call w) xs = unnumbered w _ ∙ reads_on w _ ∙ put_one xs _ _ _
  reads_on (Writes.numbered {k = k} h w) xs = rw (le-leb k 999 h, all_but_last xs (Item.Call None)) (reads_on w _ ∙ put_one xs _ _ _)
  reads_on (Writes.named w) xs = reads_on w _ ∙ put_one xs _ _ _
  reads_on (Writes.operand o w) xs = rw o (reads_on w _ ∙ put_one xs _ _ _)
  reads_on (Writes.pin {n} o w) xs = rw (o, one_less n) (reads_on w _ ∙ put_one xs _ _ _)
  reads_on (Writes.assign o w) xs = rw o (reads_on w _ ∙ put_one xs _ _ _)
  reads_on (Writes.direct {w = v} h w) xs = rw (in_range _ _ v h) (reads_on w _ ∙ put_one xs _ _ _)
  reads_on (Writes.mark {w = v} h w) xs = rw (in_range _ _ v h) (reads_on w _ ∙ put_one xs _ _ _)
  reads_on (Writes.end {n} c) xs = reads_constants c n _ []

-- the reader answers what the tokens write
pub complete : (e : Edition) (end : ℕ) (ts : List Seen) (is : List Item) (cs : List Constant) → Writes e 0 ts is cs → read_on e end ts unread ≡ list is cs
complete e end ts is cs w = reads_on e end w []
