-- One digit after another: what is left to read gives the number.
use Rattle.std.proofs.Common.{◌≡◌, ℕ, ◌+◌, ◌-◌, ◌*◌, ◌<◌, ◌≤◌, cond, ◌&&◌, List, [], ◌∷◌, length, get_or, drop, Some, None, Option, sym, refl, ap, ◌∙◌, arith}
use Rattle.std.specs.Str.{all_ascii_digits}
use Rattle.std.specs.List.{list_all}
use Rattle.std.proofs.lemmas.List.{at_drop_more, at_drop_all}
use Rattle.std.proofs.lemmas.Bool.Decides.{nat_tests}
use Rattle.character.specs.Classes.{is_digit}
use Rattle.numeral.specs.Numerals.{value_on, up_to, digit_on}

-- what the digits that are left make of n
abbrev pub rest : ℕ → ℕ → List ℕ → Option ℕ
rest limit n ds = up_to limit (cond (all_ascii_digits ds) (Some (value_on n ds)) None)

grows : (n : ℕ) (ds : List ℕ) → n ≤ value_on n ds
grows n [] = omega arith
grows n (c ∷ cs) = let g = grows (10 * n + (c - 48)) cs in omega arith

-- past the limit nothing that follows helps
past : (limit n : ℕ) (ds : List ℕ) → limit < n → rest limit n ds ≡ None
past limit n ds l = let g = grows n ds in grind (arith, nat_tests)

-- a byte that is no digit, or leads past the limit
refused : (limit n c : ℕ) (cs : List ℕ) → digit_on limit n c ≡ None → rest limit n (c ∷ cs) ≡ None
refused limit n c cs h = let g = grows (10 * n + (c - 48)) cs in grind (arith, nat_tests)

taken : (limit n m c : ℕ) (cs : List ℕ) → digit_on limit n c ≡ Some m → rest limit n (c ∷ cs) ≡ rest limit m cs
taken limit n m c cs h = grind (arith, nat_tests)

pub stops : (limit n i : ℕ) (bs : List ℕ) → i < length bs → None ≡ digit_on limit n (get_or bs i 0) → None ≡ rest limit n (drop i bs)
stops limit n i bs l h = sym (at_drop_more (rest limit n) bs i 0 l ∙ refused limit n (get_or bs i 0) (drop (i + 1) bs) (sym h))

pub goes_on : (limit n m i : ℕ) (bs : List ℕ) → i < length bs → Some m ≡ digit_on limit n (get_or bs i 0) → rest limit m (drop (i + 1) bs) ≡ rest limit n (drop i bs)
goes_on limit n m i bs l h = sym (at_drop_more (rest limit n) bs i 0 l ∙ taken limit n m (get_or bs i 0) (drop (i + 1) bs) (sym h))

pub at_end : (limit n i : ℕ) (bs : List ℕ) → length bs ≤ i → n ≤ limit → Some n ≡ rest limit n (drop i bs)
at_end limit n i bs l h = sym (at_drop_all (rest limit n) bs i l ∙ grind (arith, nat_tests))

pub kept : (limit n c m : ℕ) → Some m ≡ digit_on limit n c → m ≤ limit
kept limit n c m h = grind (arith, nat_tests)

-- digits alone
pub each_digit : (ds : List ℕ) → list_all is_digit ds ≡ all_ascii_digits ds
each_digit [] = refl
each_digit (c ∷ cs) = ap (λ b. is_digit c && b) (each_digit cs)
