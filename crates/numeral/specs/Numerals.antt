-- Numbers in a text: digits, or a minus and digits. Their value is exact, however long they are.
use Rattle.std.specs.Prelude.{ℕ, ◌+◌, ◌-◌, ◌*◌, cond, ◌&&◌, List, [], ◌∷◌, ℤ, pos, neg_ℤ, Some, None, Option, ◌==◌, int_le, nat_le}
use Rattle.std.specs.Str.{all_ascii_digits}
use Rattle.character.specs.Classes.{is_digit}

-- the number that digits write after n
abbrev pub value_on : ℕ → List ℕ → ℕ
value_on n [] = n
value_on n (c ∷ cs) = value_on (10 * n + (c - 48)) cs

-- one digit at least, and nothing else
abbrev pub natural : List ℕ → Option ℕ
natural [] = None
natural (c ∷ cs) = cond (all_ascii_digits (c ∷ cs)) (Some (value_on 0 (c ∷ cs))) None

-- a whole number as it is written: digits alone, or after a minus
pub data Written : Type 0 where
  plain : ℕ → Written
  minus : ℕ → Written

abbrev pub plain_of : Option ℕ → Option Written
plain_of None = None
plain_of (Some n) = Some (plain n)

abbrev pub minus_of : Option ℕ → Option Written
minus_of None = None
minus_of (Some n) = Some (minus n)

abbrev pub written_as : List ℕ → Option Written
written_as [] = None
written_as (c ∷ cs) = cond (c == 45) (minus_of (natural cs)) (plain_of (natural (c ∷ cs)))

abbrev pub value_of : Written → ℤ
value_of (plain n) = pos n
value_of (minus n) = neg_ℤ (pos n)

-- a number of at most limit
abbrev pub up_to : ℕ → Option ℕ → Option ℕ
up_to limit None = None
up_to limit (Some n) = cond (nat_le n limit) (Some n) None

-- a number from low to high
abbrev pub within : ℤ → ℤ → Option Written → Option ℤ
within low high None = None
within low high (Some w) = cond (int_le low (value_of w) && int_le (value_of w) high) (Some (value_of w)) None

-- the number with one more digit behind n, where that is at most limit
abbrev pub digit_on : ℕ → ℕ → ℕ → Option ℕ
digit_on limit n c = cond (is_digit c) (up_to limit (Some (10 * n + (c - 48)))) None

-- the number, where it lies from low to high
abbrev pub from_to : ℤ → ℤ → ℤ → Option ℤ
from_to low high z = cond (int_le low z && int_le z high) (Some z) None
