-- The tests of the arrays and what they say of operands are the same.
use Rattle.std.proofs.Common.{◌≡◌, ℕ, zero, suc, ◌+◌, ◌*◌, ◌/◌, ◌%◌, ◌<◌, Bool, true, false, eqb, List, [], ◌∷◌, length, get_or, ℤ, pos, sym, refl, ap, ◌∙◌, arith}
use Rattle.std.proofs.lemmas.Bool.{and_from, and_parts, lt-ltb, ltb-true, eqb-true, eq-eqb}
use Rattle.number.specs.Limits.{lawful}
use Rattle.number.specs.declared.limit.Width.{Width}
use Rattle.number.specs.declared.limit.Width.TheVariants.{Word, Double}
use Rattle.store.specs.declared.store.Store.{Store}
use Rattle.store.specs.Chains.{no_chain}
use Rattle.store.specs.Words.{bit}
use Rattle.memory.specs.Facts.{every, in_chain, all_lawful}
use Rattle.memory.specs.Readings.{value_of}
use Rattle.memory.specs.Sound.{Sound, OneSet, HoldsLawful, step_at}
use Rattle.memory.proofs.Held.{Held, size_at}

module _ {X : Type 0} (t : X → Bool) (d : X) where
  pub every_at : (xs : List X) (i : ℕ) → i < length xs → every t xs ≡ true → t (get_or xs i d) ≡ true
  every_at [] i l e = absurd (omega arith)
  every_at (x ∷ xs) zero l e = (and_parts (t x) (every t xs) e).0
  every_at (x ∷ xs) (suc i) l e = every_at xs i (omega arith) (and_parts (t x) (every t xs) e).1

  pub every_from : (xs : List X) → ((i : ℕ) → i < length xs → t (get_or xs i d) ≡ true) → every t xs ≡ true
  every_from [] h = refl
  every_from (x ∷ xs) h = and_from (t x) (every t xs) (h 0 (omega arith)) (every_from xs (λ i l. h (suc i) (omega arith)))

  -- past the end the default stands
  pub every_everywhere : t d ≡ true → (xs : List X) (i : ℕ) → every t xs ≡ true → t (get_or xs i d) ≡ true
  every_everywhere o [] i e = o
  every_everywhere o (x ∷ xs) zero e = (and_parts (t x) (every t xs) e).0
  every_everywhere o (x ∷ xs) (suc i) e = every_everywhere o xs i (and_parts (t x) (every t xs) e).1

group_back : (g c : ℕ) → c < 16 → (16 * g + c) / 16 ≡ g
group_back g c h = omega arith

channel_back : (g c : ℕ) → c < 16 → (16 * g + c) % 16 ≡ c
channel_back g c h = omega arith

-- a step's value, by its group and channel
pub step_value : (m : Store) (g c : ℕ) → c < 16 → value_of m (step_at g c) ≡ bit (eqb (get_or m.chains g no_chain).set c)
unfolding value_of
step_value m g c h =
    ap (λ (i : ℕ). bit (eqb (get_or m.chains i no_chain).set ((16 * g + c) % 16))) (group_back g c h)
    ∙ ap (λ (j : ℕ). bit (eqb (get_or m.chains g no_chain).set j)) (channel_back g c h)

lawful_0 : (w : Width) → lawful w (pos 0) ≡ true
lawful_0 Word = refl
lawful_0 Double = refl

held_lawful : (w : Width) (zs : List ℤ) → all_lawful w zs ≡ true → HoldsLawful w zs
held_lawful w zs e = λ p. every_everywhere (lawful w) (pos 0) (lawful_0 w) zs p e

lawful_held : (w : Width) (zs : List ℤ) → HoldsLawful w zs → all_lawful w zs ≡ true
lawful_held w zs h = every_from (lawful w) (pos 0) zs (λ i l. h i)

pub sound_from : (m : Store) → Held m → Sound m
sound_from m h = record {
  whole = h.whole;
  chains = λ g l.
      let n : g < length m.chains = omega (arith, size_at m h 3) in
      ((get_or m.chains g no_chain).set, (ltb-true (get_or m.chains g no_chain).set 16 (every_at in_chain no_chain m.chains g n h.steps), λ c x. step_value m g c x));
  output_words = held_lawful Word m.output_words h.outs;
  marker_words = held_lawful Word m.marker_words h.marks;
  constant_words = held_lawful Word m.constant_words h.consts;
  marker_doubles = held_lawful Double m.marker_doubles h.doubles;
  constant_doubles = held_lawful Double m.constant_doubles h.const_doubles;
}

bit_one : (b : Bool) → bit b ≡ pos 1 → b ≡ true
bit_one true e = refl
bit_one false e = let z : ◌≡◌ {A = ℕ} 0 1 = cc in absurd (omega arith)

one_bit : (s : ℕ) → bit (eqb s s) ≡ pos 1
one_bit s = ap bit (eq-eqb s s refl)

chain_held : (m : Store) (g : ℕ) → OneSet m g → in_chain (get_or m.chains g no_chain) ≡ true
chain_held m g (s, (l, each)) =
    let is : (get_or m.chains g no_chain).set ≡ s = eqb-true (get_or m.chains g no_chain).set s (bit_one _ (sym (step_value m g s l) ∙ each s l ∙ one_bit s)) in
    lt-ltb (get_or m.chains g no_chain).set 16 (omega arith)

pub held_from : (m : Store) → Sound m → Held m
held_from m h = record {
  whole = h.whole;
  steps =
      let n : length m.chains ≡ 128 = ap (λ (ns : List ℕ). get_or ns 3 0) h.whole in
      every_from in_chain no_chain m.chains (λ g l. chain_held m g (h.chains g (omega arith)));
  outs = lawful_held Word m.output_words h.output_words;
  marks = lawful_held Word m.marker_words h.marker_words;
  consts = lawful_held Word m.constant_words h.constant_words;
  doubles = lawful_held Double m.marker_doubles h.marker_doubles;
  const_doubles = lawful_held Double m.constant_doubles h.constant_doubles;
}
