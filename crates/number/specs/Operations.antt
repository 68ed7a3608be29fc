-- The operations on words: the exact whole number, limited once.
use Rattle.std.specs.Prelude.{ℕ, ◌*◌, ◌/◌, Bool, false, cond, ℤ, pos, negsuc, ◌+ℤ◌, ◌-ℤ◌, ◌*ℤ◌, neg_ℤ, ◌==◌, int_div, int_lt}
use Rattle.number.specs.Limits.{top_of, limited_to}
use Rattle.number.specs.declared.limit.Width.TheVariants.{Word}

abbrev pub sum : ℤ → ℤ → ℤ
sum a b = limited_to Word (a +ℤ b)

abbrev pub difference : ℤ → ℤ → ℤ
difference a b = limited_to Word (a -ℤ b)

abbrev pub product : ℤ → ℤ → ℤ
product a b = limited_to Word (a *ℤ b)

abbrev pub negative : ℤ → ℤ
negative a = limited_to Word (neg_ℤ a)

abbrev pub is_zero : ℤ → Bool
is_zero (pos n) = n == 0
is_zero (negsuc n) = false

-- what a division by 0 gives: the end of the lawful words on the dividend's side, 0 for 0
abbrev pub by_zero : ℤ → ℤ
by_zero a = cond (int_lt (pos 0) a) (pos (top_of Word)) (cond (int_lt a (pos 0)) (neg_ℤ (pos (top_of Word))) (pos 0))

-- the whole quotient, cut towards 0
abbrev pub cut : ℤ → ℤ → ℤ
cut a b = cond (is_zero b) (by_zero a) (int_div a b)

abbrev pub quotient : ℤ → ℤ → ℤ
quotient a b = limited_to Word (cut a b)

-- z1 × z2 : z3, where nothing is limited before the end
abbrev pub scaled : ℤ → ℤ → ℤ → ℤ
scaled z1 z2 z3 = quotient (z1 *ℤ z2) z3

-- below 0 counts as 0
abbrev pub natural : ℤ → ℕ
natural (pos n) = n
natural (negsuc n) = 0

-- a delay in ms, rounded down to a multiple of 5
abbrev pub rounded_delay : ℤ → ℕ
rounded_delay zd = natural zd / 5 * 5
