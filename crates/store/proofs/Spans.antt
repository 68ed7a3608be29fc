-- One place further: the steps of the loops over several places.
use Rattle.std.proofs.Common.{◌≡◌, ℕ, zero, suc, ◌+◌, ◌-◌, ◌*◌, ◌/◌, ◌%◌, ◌^◌, ◌<◌, ◌≤◌, Bool, true, false, cond, eqb, List, get_or, set, sym, refl, ap, ◌∙◌, add-one, arith, pow_mono}
use Rattle.std.proofs.Common.{bit_and}
use Rattle.std.proofs.Math.Nat.{div-div-eq-div-mul, pow-suc}
use Rattle.std.proofs.lemmas.Nat.Bits.{shr_and_one}
use Rattle.std.specs.Int.{from_bool}
use Rattle.store.specs.Words.{shifted, bit_of}
use Rattle.store.specs.Places.{filled, spread, gathered}

pub filled_none : {X : Type 0} (xs : List X) (first : ℕ) (x : X) → xs ≡ filled xs first 0 x
unfolding filled
filled_none xs first x = refl

pub filled_more : {X : Type 0} (xs : List X) (first n : ℕ) (x : X) → set (filled xs first n x) (first + n) x ≡ filled xs first (n + 1) x
unfolding filled
filled_more xs first n x = ap (λ k. filled xs first k x) (sym (add-one n))

pub spread_none : (xs : List Bool) (first w : ℕ) → xs ≡ spread xs first w 0
unfolding spread
spread_none xs first w = refl

pub spread_more : (xs : List Bool) (first w n : ℕ) → set (spread xs first w n) (first + n) (bit_of w n) ≡ spread xs first w (n + 1)
unfolding spread
spread_more xs first w n = ap (λ k. spread xs first w k) (sym (add-one n))

-- a word without its lowest n bits is its quotient by 2 to the n
shifted_is : (w n : ℕ) → w / 2 ^ n ≡ shifted w n
unfolding shifted
shifted_is w zero = grind arith
shifted_is w (suc n) = simp pow-suc (sym (div-div-eq-div-mul w (2 ^ n) 2) ∙ ap (λ (k : ℕ). k / 2) (shifted_is w n))

pub bit_here : (w n : ℕ) → eqb (bit_and (w / 2 ^ n) 1) 1 ≡ bit_of w n
bit_here w n = ap (λ (k : ℕ). eqb k 1) (shr_and_one w n ∙ ap (λ (k : ℕ). k % 2) (shifted_is w n))

pub gathered_none : (xs : List Bool) (first : ℕ) → 0 ≡ gathered xs first 0
unfolding gathered
gathered_none xs first = refl

one_at_most : (b : Bool) → cond b 1 0 ≤ 1
one_at_most true = omega arith
one_at_most false = omega arith

-- n bits are below 2 to the n
pub gathered_below : (xs : List Bool) (first n : ℕ) → gathered xs first n < 2 ^ n
unfolding gathered
gathered_below xs first zero = omega arith
gathered_below xs first (suc n) = omega (arith, gathered_below xs (suc first) n, one_at_most (get_or xs first false))

pub gathered_room : (xs : List Bool) (first k : ℕ) → 0 < k → gathered xs first (16 - k) < 2 ^ 15
gathered_room xs first k h = omega (arith, gathered_below xs first (16 - k), pow_mono {i = 16 - k} {j = 15} (omega arith))

pub byte_at_most : (b : Bool) → from_bool b ≤ 1
byte_at_most true = omega arith
byte_at_most false = omega arith

as_byte : (b : Bool) → cond b 1 0 ≡ from_bool b
as_byte true = refl
as_byte false = refl

pub gathered_more : (xs : List Bool) (first k : ℕ) → 0 < k → k ≤ 16 → 2 * gathered xs (first + k) (16 - k) + from_bool (get_or xs (first + (k - 1)) false) ≡ gathered xs (first + (k - 1)) (16 - (k - 1))
unfolding gathered
gathered_more xs first k low high =
    let n : 16 - (k - 1) ≡ suc (16 - k) = omega arith in
    let f : suc (first + (k - 1)) ≡ first + k = omega arith in
    let b = as_byte (get_or xs (first + (k - 1)) false) in
    let e : cond (get_or xs (first + (k - 1)) false) 1 0 + 2 * gathered xs (first + k) (16 - k) ≡ gathered xs (first + (k - 1)) (16 - (k - 1)) =
    ap (λ a. cond (get_or xs (first + (k - 1)) false) 1 0 + 2 * gathered xs a (16 - k)) (sym f) ∙ sym (ap (gathered xs (first + (k - 1))) n) in
    omega (arith, e, b)
