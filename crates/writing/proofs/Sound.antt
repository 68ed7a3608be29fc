-- What the reader reads is what the text writes: what the tokens are from each state of the reader to the text's end.
use Rattle.std.proofs.Common.{◌≡◌, ℕ, zero, suc, ◌-◌, Bool, true, false, cond, leb, List, [], ◌∷◌, ◌++◌, pos, negsuc, Some, None, Option, sym, refl, ap, ◌∙◌, subst, append_assoc, append-nil, arith}
use Rattle.std.proofs.lemmas.Bool.{leb-true}
use Rattle.operand.specs.declared.edition.Edition.{Edition}
use Rattle.operand.specs.declared.kind.Kind.{Kind}
use Rattle.operand.specs.declared.operand.Operand.{Operand}
use Rattle.operand.specs.Kinds.{size_of}
use Rattle.item.specs.declared.mnemonic.Form.{Form}
use Rattle.item.specs.declared.mnemonic.Mnemonic.{Mnemonic}
use Rattle.item.specs.declared.mnemonic.Mnemonic.TheVariants as Word
use Rattle.item.specs.declared.item.Item.{Item}
use Rattle.image.specs.declared.constant.Constant.{Constant}
use Rattle.numeral.specs.Numerals.{Written, plain, minus}
use Rattle.token.specs.Tokens.{Tok, word, letters, block, define, number, pair, unknown, Seen}
use Rattle.follow.specs.declared.state.Asks.{Asks}
use Rattle.follow.specs.declared.state.Role.{Role}
use Rattle.follow.specs.declared.state.Role.TheVariants as For
use Rattle.follow.specs.declared.state.State.{State}
use Rattle.follow.specs.declared.state.Step.{Step}
use Rattle.constants.specs.Rules.{constant_kind, constant_fits, least, most}
use Rattle.follow.specs.Steps.{word_bits, begun, entry, after_call, call_number, term, target, address, direct, mark, constant, defined, valued, asked}
use Rattle.reader.specs.Reading.{Read, Outcome, list, misfit, go_on, stepped, ended, items_after, constants_after, read_on, unread}
use Rattle.writing.specs.Texts.{at, Alone, Constants, Writes}
use Rattle.writing.proofs.Ranges.{all_but_last, one_less}
use Rattle.writing.proofs.Wanted.{Letters, letters_then, Address, address_then, Number, number_then, Define, define_then, Called, plainly, by_number, letters_wanted, address_wanted, number_wanted}

-- no constant was read
abbrev First : Option Operand → List Constant → Type 0
First last ys = (last ≡ None) × (ys ≡ [])

module _ (e : Edition) (is : List Item) (cs : List Constant) where
  -- the tokens write the items that come behind xs
  record From (n : ℕ) (xs : List Item) (ts : List Seen) : Type 0 where
    more : List Item
    all : is ≡ xs ++ more
    writes : Writes e n ts more cs

  -- an operand was put, as a pin while pins are to come
  abbrev TermDone : ℕ → Operand → List Item → List Seen → Type 0
  TermDone zero o xs ts = From 0 (xs ++ (Item.Operand o ∷ [])) ts
  TermDone (suc n) o xs ts = From n (xs ++ (Item.Pin o ∷ [])) ts

  -- constants to the end
  record Ends (last : Option Operand) (xs : List Item) (ys : List Constant) (ts : List Seen) : Type 0 where
    more : List Constant
    items : is ≡ xs
    all : cs ≡ ys ++ more
    constants : Constants e last ts more

  -- the parts of a constant that are wanted next: its value, `:=`, group and channel
  abbrev Valued : Operand → List Item → List Constant → List Seen → Type 0
  Valued o xs ys ts = Number (least (size_of o.kind)) (most (size_of o.kind)) (λ z us. Ends (Some o) xs (ys ++ (record { operand = o; value = z } ∷ [])) us) ts

  abbrev Defined : Operand → List Item → List Constant → List Seen → Type 0
  Defined o xs ys ts = Define (Valued o xs ys) ts

  abbrev Addressed : Kind → Option Operand → List Item → List Constant → List Seen → Type 0
  Addressed k last xs ys ts = Address e k (λ o us. (constant_fits last o ≡ true) × Defined o xs ys us) ts

  -- group and channel of what an assignment stores to
  abbrev Targeted : Form → Kind → ℕ → Option Operand → List Item → List Constant → List Seen → Type 0
  Targeted f k n last xs ys ts = Address e k (λ o us. First last ys → From n (xs ++ (Item.Assign f o ∷ [])) us) ts

  -- what the tokens are from each state on
  abbrev Rest : Asks → ℕ → Option Operand → List Item → List Constant → List Seen → Type 0
  Rest Asks.Entry n last xs ys ts = First last ys → From n xs ts
  Rest Asks.CallNumber n last xs ys ts = First last ys → Called (From n) xs ts
  Rest (Asks.Target f) n last xs ys ts = Letters (λ k us. Targeted f k n last xs ys us) ts
  Rest (Asks.Address For.Term k) n last xs ys ts = Address e k (λ o us. First last ys → TermDone n o xs us) ts
  Rest (Asks.Address (For.Target f) k) n last xs ys ts = Targeted f k n last xs ys ts
  Rest (Asks.Address For.Constant k) n last xs ys ts = Addressed k last xs ys ts
  Rest Asks.Direct n last xs ys ts = Number (negsuc 32767) (pos 32767) (λ z us. First last ys → From (n - 1) (xs ++ (Item.Direct (word_bits z) ∷ [])) us) ts
  Rest Asks.Mark n last xs ys ts = Number (pos 0) (pos 999) (λ z us. First last ys → From n (xs ++ (Item.Mark (word_bits z) ∷ [])) us) ts
  Rest Asks.Constant n last xs ys ts = Ends last xs ys ts
  Rest (Asks.Define o) n last xs ys ts = Defined o xs ys ts
  Rest (Asks.Value o) n last xs ys ts = Valued o xs ys ts

  -- what the tokens are behind a step
  abbrev Ok : Option Step → List Item → List Constant → List Seen → Type 0
  Ok None xs ys ts = ⊥
  Ok (Some st) xs ys ts = Rest st.state.asks st.state.pins st.state.last (items_after st.put xs) (constants_after st.put ys) ts

  -- an item stands before the items behind it
  before : {n m : ℕ} {i : Item} {xs : List Item} {ts us : List Seen} → ((more : List Item) → Writes e n ts more cs → Writes e m us (i ∷ more) cs)
      → From n (xs ++ (i ∷ [])) ts → From m xs us
  before {i = i} {xs = xs} f w = record { more = i ∷ w.more; all = w.all ∙ append_assoc xs (i ∷ []) w.more; writes = f w.more w.writes }

  -- what a mnemonic or letters begin, together with what stands behind
  assigned : {n p : ℕ} {f : Form} {last : Option Operand} {xs : List Item} {ys : List Constant} {ts : List Seen}
      → Rest (Asks.Target f) n last xs ys ts → First last ys → From n xs (at p (word (Word.Assign f)) ∷ ts)
  assigned (letters_then (address_then o h)) first = before (λ _. Writes.assign o) (h first)

  called : {n p : ℕ} {xs : List Item} {ts : List Seen} → Called (From n) (xs ++ (Item.Call None ∷ [])) ts → From n xs (at p (word Word.Call) ∷ ts)
  called (plainly h) = before (λ _. Writes.call) h
  called {n} {xs = xs} (by_number {k = k} {ts = us} l h) =
      before (λ _. Writes.numbered l) (subst (λ (zs : List Item). From n (zs ++ (Item.Call (Some k) ∷ [])) us) (all_but_last xs (Item.Call None)) h)

  given : {n p : ℕ} {last : Option Operand} {xs : List Item} {ys : List Constant} {ts : List Seen}
      → Rest Asks.Direct n last xs ys ts → First last ys → From n xs (at p (word Word.Direct) ∷ ts)
  given (number_then v h) first = before (λ _. Writes.direct v) (h first)

  marked : {n p : ℕ} {last : Option Operand} {xs : List Item} {ys : List Constant} {ts : List Seen}
      → Rest Asks.Mark n last xs ys ts → First last ys → From n xs (at p (word Word.Mark) ∷ ts)
  marked (number_then v h) first = before (λ _. Writes.mark v) (h first)

  closed : {n p : ℕ} {last : Option Operand} {xs : List Item} {ys : List Constant} {ts : List Seen}
      → Ends last (xs ++ (Item.End ∷ [])) ys ts → First last ys → From n xs (at p (word Word.End) ∷ ts)
  closed {last = last} {ts = ts} w (l, y) =
      let same : w.more ≡ cs = sym (w.all ∙ ap (λ (zs : List Constant). zs ++ w.more) y) in
      record { more = Item.End ∷ []; all = w.items; writes = Writes.end (subst (λ (o : Option Operand). Constants e o ts cs) l (subst (Constants e last ts) same w.constants)) }

  termed : (n : ℕ) {p : ℕ} {k : Kind} {last : Option Operand} {xs : List Item} {ys : List Constant} {ts : List Seen}
      → Rest (Asks.Address For.Term k) n last xs ys ts → First last ys → From n xs (at p (letters k) ∷ ts)
  termed zero (address_then o h) first = before (λ _. Writes.operand o) (h first)
  termed (suc n) (address_then o h) first = before (λ _. Writes.pin o) (h first)

  -- a token that makes a step stands before what is behind the step
  module _ (s : State) (xs : List Item) (ys : List Constant) (ts : List Seen) where
    begins : (p : ℕ) (m : Mnemonic) → Ok (Some (begun s m)) xs ys ts → First s.last ys → From s.pins xs (at p (word m) ∷ ts)
    begins p Word.Nop h first = before (λ _. Writes.alone Alone.nop) (h first)
    begins p (Word.Start t) h first = before (λ _. Writes.alone Alone.start) (h first)
    begins p (Word.Open t) h first = before (λ _. Writes.alone Alone.opening) (h first)
    begins p Word.Close h first = before (λ _. Writes.alone Alone.closing) (h first)
    begins p (Word.Operator o) h first = before (λ _. Writes.alone Alone.operator) (h first)
    begins p (Word.Compare c) h first = before (λ _. Writes.alone Alone.compare) (h first)
    begins p (Word.Assign f) h first = assigned h first
    begins p Word.EndIf h first = before (λ _. Writes.alone Alone.end_if) (h first)
    begins p Word.Call h first = called (h first)
    begins p Word.Direct h first = given h first
    begins p Word.Mark h first = marked h first
    begins p Word.End h first = closed h first

    entered : (p : ℕ) (t : Tok) → Ok (entry s t) xs ys ts → First s.last ys → From s.pins xs (at p t ∷ ts)
    entered p (word m) h first = begins p m h first
    entered p (letters k) h first = termed s.pins h first
    entered p (block b) h first = before (λ _. Writes.named) (h first)
    entered p define h first = absurd h
    entered p (number w) h first = absurd h
    entered p (pair g c) h first = absurd h
    entered p unknown h first = absurd h

    -- a test that lets a step be made has passed
    passed : (b : Bool) (st : Step) → Ok (cond b (Some st) None) xs ys ts → (b ≡ true) × Ok (Some st) xs ys ts
    passed true st h = (refl, h)
    passed false st h = absurd h

    numbered : (p : ℕ) (w : Written) → Ok (call_number s w) xs ys ts → First s.last ys → Called (From s.pins) xs (at p (number w) ∷ ts)
    numbered p (plain k) h first = let r = passed (leb k 999) _ h in by_number (leb-true k 999 r.0) (r.1 first)
    numbered p (minus k) h first = absurd h

    behind_call : (p : ℕ) (t : Tok) → Ok (after_call s t) xs ys ts → First s.last ys → Called (From s.pins) xs (at p t ∷ ts)
    behind_call p (word m) h first = plainly (entered p (word m) h first)
    behind_call p (letters k) h first = plainly (entered p (letters k) h first)
    behind_call p (block b) h first = plainly (entered p (block b) h first)
    behind_call p define h first = absurd h
    behind_call p (number w) h first = numbered p w h first
    behind_call p (pair g c) h first = absurd h
    behind_call p unknown h first = absurd h

    one_term : (n : ℕ) (o : Operand) → Ok (Some (term (record { asks = s.asks; pins = n; last = s.last }) n o)) xs ys ts → First s.last ys → TermDone n o xs ts
    one_term zero o h first = h first
    one_term (suc n) o h first = subst (λ (m : ℕ). From m (xs ++ (Item.Pin o ∷ [])) ts) (one_less n) (h first)

    role_wanted : (role : Role) (k : Kind) (p : ℕ) (t : Tok) → Ok (asked e s (Asks.Address role k) t) xs ys ts → Rest (Asks.Address role k) s.pins s.last xs ys (at p t ∷ ts)
    role_wanted For.Term k p t h = address_wanted e k (λ o. Ok (address s For.Term o) xs ys ts) (λ z. z) (λ o z. one_term s.pins o z) p t h
    role_wanted (For.Target f) k p t h = address_wanted e k (λ o. Ok (address s (For.Target f) o) xs ys ts) (λ z. z) (λ o z. z) p t h
    role_wanted For.Constant k p t h = address_wanted e k (λ o. Ok (address s For.Constant o) xs ys ts) (λ z. z) (λ o z. passed (constant_fits s.last o) _ z) p t h

    define_wanted : (o : Operand) (p : ℕ) (t : Tok) → Ok (defined s o t) xs ys ts → Defined o xs ys (at p t ∷ ts)
    define_wanted o p (word m) h = absurd h
    define_wanted o p (letters k) h = absurd h
    define_wanted o p (block b) h = absurd h
    define_wanted o p define h = define_then h
    define_wanted o p (number w) h = absurd h
    define_wanted o p (pair g c) h = absurd h
    define_wanted o p unknown h = absurd h

  -- one constant more
  one_more : {last : Option Operand} {xs : List Item} {ys : List Constant} {ts : List Seen}
      → Letters (λ k us. (constant_kind k ≡ true) × Addressed k last xs ys us) ts → Ends last xs ys ts
  one_more {ys = ys} (letters_then (k, address_then o (f, define_then (number_then v w)))) =
      record { more = _ ∷ w.more; items = w.items; all = w.all ∙ append_assoc ys _ w.more; constants = Constants.more k o f v w.constants }

  -- one token back, from any state
  step_back : (a : Asks) (s : State) (xs : List Item) (ys : List Constant) (ts : List Seen) (p : ℕ) (t : Tok)
      → Ok (asked e s a t) xs ys ts → Rest a s.pins s.last xs ys (at p t ∷ ts)
  step_back Asks.Entry s xs ys ts p t h = entered s xs ys ts p t h
  step_back Asks.CallNumber s xs ys ts p t h = behind_call s xs ys ts p t h
  step_back (Asks.Target f) s xs ys ts p t h = letters_wanted (λ o. Ok (target s f o) xs ys ts) (λ z. z) (λ k z. z) p t h
  step_back (Asks.Address role k) s xs ys ts p t h = role_wanted s xs ys ts role k p t h
  step_back Asks.Direct s xs ys ts p t h = number_wanted _ _ (λ o. Ok (direct s o) xs ys ts) (λ z. z) (λ k z. z) p t h
  step_back Asks.Mark s xs ys ts p t h = number_wanted _ _ (λ o. Ok (mark s o) xs ys ts) (λ z. z) (λ k z. z) p t h
  step_back Asks.Constant s xs ys ts p t h =
      one_more (letters_wanted (λ o. Ok (constant s o) xs ys ts) (λ z. z) (λ k z. passed s xs ys ts (constant_kind k) _ z) p t h)
  step_back (Asks.Define o) s xs ys ts p t h = define_wanted s xs ys ts o p t h
  step_back (Asks.Value o) s xs ys ts p t h = number_wanted _ _ (λ z. Ok (valued s o z) xs ys ts) (λ z. z) (λ k z. z) p t h

  -- a list was read, so no token was out of place
  in_place : {Z : Type 0} (p : ℕ) → misfit p ≡ list is cs → Z
  in_place p q = let z : ◌≡◌ {A = ℕ} 0 1 = cc in absurd (omega arith)

  -- the text's end writes nothing
  no_more : (n : ℕ) (xs : List Item) (ys : List Constant) → list xs ys ≡ list is cs → ys ≡ [] → From n xs []
  no_more n xs ys q y =
      let i : is ≡ xs = cc in
      let c : [] ≡ cs = cc in
      record { more = []; all = i ∙ sym (append-nil xs); writes = subst (Writes e n [] []) c Writes.nothing }

  -- at the text's end
  at_end : (end : ℕ) (a : Asks) (n : ℕ) (last : Option Operand) (xs : List Item) (ys : List Constant)
      → ended end (record { items = xs; constants = ys; state = record { asks = a; pins = n; last = last } }) ≡ list is cs → Rest a n last xs ys []
  at_end end Asks.Entry n last xs ys q = λ first. no_more n xs ys q first.1
  at_end end Asks.CallNumber n last xs ys q = λ first. plainly (no_more n xs ys q first.1)
  at_end end (Asks.Target f) n last xs ys q = in_place end q
  at_end end (Asks.Address role k) n last xs ys q = in_place end q
  at_end end Asks.Direct n last xs ys q = in_place end q
  at_end end Asks.Mark n last xs ys q = in_place end q
  at_end end Asks.Constant n last xs ys q =
      let i : is ≡ xs = cc in
      let c : cs ≡ ys = cc in
      record { more = []; items = i; all = c ∙ sym (append-nil ys); constants = Constants.none }
  at_end end (Asks.Define o) n last xs ys q = in_place end q
  at_end end (Asks.Value o) n last xs ys q = in_place end q

  abbrev RestOf : Read → List Seen → Type 0
  RestOf r ts = Rest r.state.asks r.state.pins r.state.last r.items r.constants ts

  -- a step was made, and the reader read on behind it
  made : (o : Option Step) (p : ℕ) (r : Read) (ts : List Seen) (rest : Read → Outcome) → ((w : Read) → rest w ≡ list is cs → RestOf w ts)
      → go_on o p r rest ≡ list is cs → Ok o r.items r.constants ts
  made None p r ts rest ih q = in_place p q
  made (Some st) p r ts rest ih q = ih (stepped r st) q

  -- what was read to a list is what the tokens are
  rest_of : (end : ℕ) (ts : List Seen) (r : Read) → read_on e end ts r ≡ list is cs → RestOf r ts
  unfolding read_on
  rest_of end [] r q = at_end end r.state.asks _ _ _ _ q
  rest_of end (t ∷ ts) r q = step_back r.state.asks r.state r.items r.constants ts t.place t.tok (made _ t.place r ts (read_on e end ts) (rest_of end ts) q)

-- the tokens write what the reader answers
pub sound : (e : Edition) (end : ℕ) (ts : List Seen) (is : List Item) (cs : List Constant) → read_on e end ts unread ≡ list is cs → Writes e 0 ts is cs
sound e end ts is cs q =
    let r = rest_of e is cs end ts unread q (refl, refl) in
    subst (λ (m : List Item). Writes e 0 ts m cs) (sym r.all) r.writes
