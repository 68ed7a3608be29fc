-- The first record of a point, looked up and written.
use Rattle.std.proofs.Common.{◌≡◌, ℕ, zero, suc, ◌+◌, ◌*◌, ◌/◌, ◌%◌, ◌<◌, Bool, true, false, cond, ◌||◌, eqb, ltb, leb, List, [], ◌∷◌, length, get_or, set, Ok, Err, Result, Some, None, Option, MatchOption, sym, refl, ap, ◌∙◌, arith, length-set, get_or-set_other, get_or-set_same, MatchResult}
use Rattle.std.proofs.lemmas.Bool.{eq-eqb, ne_eqb, cond-true, cond-false, lt-ltb, ltb-true, lt-leb, eqb-true}
use Rattle.std.proofs.lemmas.Bool.Decides.{nat_tests}
use Rattle.std.specs.Option.{ok_or}
use Rattle.plant.specs.Points.{Point, absent, Meaning, put_at}
use Rattle.plant.specs.Points.{driven as driven-point}
use Rattle.bus.specs.Buses.{on_bus, look, wired_by, besides, besides_seen, driven, blank, NoneBelow, First, Shown, Written, Driven}
use Rattle.plant.specs.declared.absent.Absent.{Absent}
use Rattle.bus.specs.declared.Module.{Module}

-- the records once a word is written at place i
abbrev written : List Module → ℕ → ℕ → List Module
written ms i w = set ms i (driven (get_or ms i blank) w)

-- one record less in front
tail : (m : Module) (ms : List Module) (p i : ℕ) → NoneBelow (m ∷ ms) p (suc i) → NoneBelow ms p i
tail m ms p i none = λ k below same. none (suc k) (omega arith) same

look_none : (ms : List Module) (p : ℕ) → NoneBelow ms p (length ms) → look ms p ≡ absent
look_none [] p none = refl
look_none (m ∷ ms) p none =
    cond-false _ _ _ (ne_eqb m.point p (none 0 (omega arith))) ∙ look_none ms p (tail m ms p (length ms) none)

look_first : (ms : List Module) (p i : ℕ) → i < length ms → (get_or ms i blank).point ≡ p → NoneBelow ms p i → look ms p ≡ wired_by (get_or ms i blank)
look_first [] p i l e none = absurd (omega arith)
look_first (m ∷ ms) p zero l e none = cond-true _ _ _ (eq-eqb m.point p e)
look_first (m ∷ ms) p (suc i) l e none =
    cond-false _ _ _ (ne_eqb m.point p (none 0 (omega arith))) ∙ look_first ms p i (omega arith) e (tail m ms p i none)

word : (w : ℕ) → w % 256 + 256 * (w / 256) ≡ w
word w = omega arith

look_written : (ms : List Module) (p i w k : ℕ) → i < length ms → (get_or ms i blank).point ≡ p → NoneBelow ms p i
    → look (written ms i w) k ≡ put_at (look ms) p w k
look_written [] p i w k l e none = absurd (omega arith)
look_written (m ∷ ms) p zero w k l e none = let v = word w in grind (arith, nat_tests)
look_written (m ∷ ms) p (suc i) w k l e none =
    let r = look_written ms p i w k (omega arith) e (tail m ms p i none) in
    let n : m.point ≡ p → ⊥ = none 0 (omega arith) in
    grind (arith, nat_tests)

besides_written : (ms : List Module) (seen : ℕ → Bool) (p i w : ℕ) → i < length ms → (get_or ms i blank).point ≡ p → NoneBelow ms p i → seen p ≡ false
    → besides_seen seen (written ms i w) ≡ besides_seen seen ms
besides_written [] seen p i w l e none new = absurd (omega arith)
besides_written (m ∷ ms) seen p zero w l e none new =
    let s : seen m.point ≡ false = ap seen e ∙ new in
    ap (λ (x : Module). x ∷ besides_seen (λ q. eqb m.point q || seen q) ms) (cond-false _ _ _ s ∙ sym (cond-false _ _ _ s))
besides_written (m ∷ ms) seen p (suc i) w l e none new =
    let n : eqb m.point p ≡ false = ne_eqb m.point p (none 0 (omega arith)) in
    ap (λ (xs : List Module). cond (seen m.point) m (driven m 0) ∷ xs)
    (besides_written ms (λ q. eqb m.point q || seen q) p i w (omega arith) e (tail m ms p i none) (ap (λ (b : Bool). b || seen p) n ∙ new))

pub none_found : (ms : List Module) (p : ℕ) → (p < 192 → NoneBelow ms p (length ms)) → on_bus ms p ≡ absent
none_found ms p none = by (ltb p 192) refl
  where
    by : (b : Bool) → ltb p 192 ≡ b → cond b (look ms p) absent ≡ absent
    by true small = look_none ms p (none (ltb-true p 192 small))
    by false past = refl

pub shown_first : (ms : List Module) (p i : ℕ) → p < 192 → First ms p i → on_bus ms p ≡ wired_by (get_or ms i blank)
shown_first ms p i small f = cond-true _ _ _ (lt-ltb p 192 small) ∙ look_first ms p i f.within f.here f.before

-- what the place that was looked up, or none, is to the bus
pub placed : (L : ℕ) (ms : List Module) (p : ℕ) (r : Option ℕ) → MatchOption r (p < 192 → NoneBelow ms p (length ms)) (λ at. (p < 192) × First ms p at)
    → MatchResult (ok_or {E = Absent L} r (record { point = p })) (λ at. Shown ms p at) (λ e. (e.point ≡ p) × (on_bus ms p ≡ absent))
placed L ms p (Some at) f = record { within = f.1.within; shown = shown_first ms p at f.0 f.1 }
placed L ms p None none = (refl, none_found ms p none)

on_bus_at : (ms : List Module) (p i w k : ℕ) → p < 192 → First ms p i → on_bus (written ms i w) k ≡ put_at (on_bus ms) p w k
on_bus_at ms p i w k small f =
    let e = look_written ms p i w k f.within f.here f.before in
    grind (arith, nat_tests)

-- a put where nothing is fitted changes nothing
put_absent : (m : Meaning) (p w : ℕ) → m p ≡ absent → m ≡ put_at m p w
put_absent m p w none = λ j k. by k (eqb k p) refl j
  where
    by : (k : ℕ) (b : Bool) → eqb k p ≡ b → m k ≡ cond b (driven-point (m k) w) (m k)
    by k true same = let e : m k ≡ absent = ap m (eqb-true k p same) ∙ none in e ∙ sym (ap (λ (x : Point). driven-point x w) e)
    by k false other = refl

module _ (ms : List Module) (p w : ℕ) (ns : List Module) where
  driven_so : Written ms p w ns → Driven ms p w ns
  driven_so x =
      let i = x.place in
      let m = driven (get_or ms i blank) w in
      record {
        place = i;
        first = x.first;
        shown = shown_first ms p i x.fit x.first;
        there = ap (λ (ns : List Module). get_or ns i blank) x.now ∙ get_or-set_same ms i m blank x.first.within;
        elsewhere = λ k other. ap (λ (ns : List Module). get_or ns k blank) x.now ∙ get_or-set_other ms i k m blank other;
        long = ap length x.now ∙ length-set ms i m;
      }

  -- what a write into the first record, or its refusal, is to the bus
  pub record Put {L : ℕ} (r : Result (Unit {0}) (Absent L)) : Type 0 where
    pub records : MatchResult r (λ _. Driven ms p w ns) (λ e. (e.point ≡ p) × (on_bus ms p ≡ absent) × (ns ≡ ms))
    pub after : on_bus ns ≡ put_at (on_bus ms) p w
    pub rest : besides ns ≡ besides ms

  pub put_by : {L : ℕ} (r : Result (Unit {0}) (Absent L)) → MatchResult r (λ _. Written ms p w ns) (λ e. (e.point ≡ p) × (p < 192 → NoneBelow ms p (length ms)) × (ns ≡ ms)) → Put r
  put_by (Ok u) x = record {
    records = driven_so x;
    after = ap on_bus x.now ∙ (λ j k. on_bus_at ms p x.place w k x.fit x.first j);
    rest = ap besides x.now ∙ besides_written ms (λ q. leb 192 q) p x.place w x.first.within x.first.here x.first.before (lt-leb 192 p x.fit);
  }
  put_by (Err e) x = record {
    records = (x.0, none_found ms p x.1, x.2);
    after = ap on_bus x.2 ∙ put_absent (on_bus ms) p w (none_found ms p x.1);
    rest = ap besides x.2;
  }
