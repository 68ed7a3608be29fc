-- The walk over the numbers of a table, one number at a time.
use Rattle.std.proofs.Common.{◌≡◌, ℕ, zero, suc, ◌-◌, ◌<◌, Bool, true, false, cond, List, Some, None, Option, sym, refl, ap, ◌∙◌, arith}
use Rattle.std.specs.Str.{bytes_eq}
use Rattle.spelling.specs.Spellings.{if_spelt, spelt_at, spelt_below}

module _ {T : Type 0} (entry : ℕ → Option T) (spelling : T → List ℕ) (bs : List ℕ) where
  below_none : None ≡ spelt_below entry spelling bs 0
  unfolding spelt_below
  below_none = refl

  if_hit : (o other : Option T) (t : T) → if_spelt spelling bs o None ≡ Some t → if_spelt spelling bs o other ≡ Some t
  if_hit None other t h = absurd (never h)
    where
      never : None ≡ Some t → ⊥
      never e = grind arith
  if_hit (Some u) other t h = by (bytes_eq bs (spelling u)) h
    where
      by : (b : Bool) → cond b (Some u) None ≡ Some t → cond b (Some u) other ≡ Some t
      by true e = e
      by false e = grind arith

  if_miss : (o other : Option T) → if_spelt spelling bs o None ≡ None → if_spelt spelling bs o other ≡ other
  if_miss None other h = refl
  if_miss (Some u) other h = by (bytes_eq bs (spelling u)) h
    where
      by : (b : Bool) → cond b (Some u) None ≡ None → cond b (Some u) other ≡ other
      by true e = grind arith
      by false e = refl

  at_last : (n : ℕ) → 0 < n → spelt_below entry spelling bs n ≡ if_spelt spelling bs (entry (n - 1)) (spelt_below entry spelling bs (n - 1))
  unfolding spelt_below
  at_last zero l = absurd (omega arith)
  at_last (suc n) l = ap (λ (k : ℕ). if_spelt spelling bs (entry k) (spelt_below entry spelling bs k)) (omega arith)

  pub hit : (n : ℕ) (t : T) → 0 < n → Some t ≡ spelt_at entry spelling bs (n - 1) → Some t ≡ spelt_below entry spelling bs n
  hit n t l h = sym (at_last n l ∙ if_hit (entry (n - 1)) (spelt_below entry spelling bs (n - 1)) t (sym h))

  pub miss : (n : ℕ) → 0 < n → None ≡ spelt_at entry spelling bs (n - 1) → spelt_below entry spelling bs (n - 1) ≡ spelt_below entry spelling bs n
  miss n l h = sym (at_last n l ∙ if_miss (entry (n - 1)) (spelt_below entry spelling bs (n - 1)) (sym h))

  pub over : (n : ℕ) → n ≡ 0 → None ≡ spelt_below entry spelling bs n
  over n e = below_none ∙ ap (spelt_below entry spelling bs) (sym e)
