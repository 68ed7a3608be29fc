-- Numbers with two digits at least.
use Rattle.std.specs.Prelude.{ℕ, ◌+◌, cond, List, [], ◌∷◌, decimal, nat_lt}

abbrev pub two_digits : ℕ → List ℕ
two_digits n = cond (nat_lt n 10) (48 ∷ (48 + n) ∷ []) (decimal n)
