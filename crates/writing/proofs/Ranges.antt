-- Small facts on numbers and lists: a number lies from low to high exactly where the reader's test says so.
use Rattle.std.proofs.Common.{◌≡◌, ℕ, suc, ◌-◌, Bool, true, false, ◌&&◌, T, List, [], ◌∷◌, ◌++◌, length, take, ℤ, Some, refl, arith}
use lib.Signed.{le_z, le_z_yes}
use Rattle.std.proofs.lemmas.Bool.{and_from, and_parts, cond-true}
use Rattle.std.proofs.lemmas.List.{take_at, length-append}
use Rattle.numeral.specs.Numerals.{Written, value_of, within}
use Rattle.writing.specs.Texts.{FromTo}

T_true : (b : Bool) → T b → b ≡ true
T_true true t = refl
T_true false t = absurd t

true_T : (b : Bool) → b ≡ true → T b
true_T true e = tt
true_T false e = let z : ◌≡◌ {A = ℕ} 0 1 = cc in absurd (omega arith)

-- a number in the range passes the test
pub in_range : (low high : ℤ) (w : Written) → FromTo low high w → within low high (Some w) ≡ Some (value_of w)
in_range low high w (l, h) = cond-true _ _ _ (and_from _ _ (T_true _ l.le) (T_true _ h.le))

-- a number that passes the test is in the range
pub range_of : (low high : ℤ) (w : Written) → (le_z low (value_of w) && le_z (value_of w) high) ≡ true → FromTo low high w
range_of low high w e =
    let p = and_parts _ _ e in
    (le_z_yes (true_T _ p.0), le_z_yes (true_T _ p.1))

-- a pin less
pub one_less : (n : ℕ) → suc n - 1 ≡ n
one_less n = omega arith

-- all but the last of a list
pub all_but_last : {A : Type 0} (xs : List A) (x : A) → take (length (xs ++ (x ∷ [])) - 1) (xs ++ (x ∷ [])) ≡ xs
all_but_last xs x = take_at xs (x ∷ []) _ (simp length-append (omega arith))
