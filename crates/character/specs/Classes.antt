-- The classes of characters.
use Rattle.std.specs.Prelude.{Bool, cond, ◌||◌, ◌&&◌, ℕ, ◌==◌, nat_le}
use Rattle.character.specs.declared.Class.{Class}
use Rattle.character.specs.declared.Class.TheVariants.{Digit, Comma, Sign, Letter, Separator}

abbrev pub is_digit : ℕ → Bool
is_digit c = nat_le 48 c && nat_le c 57

abbrev pub is_comma : ℕ → Bool
is_comma c = c == 44

abbrev pub is_letter : ℕ → Bool
is_letter c = (nat_le 65 c && nat_le c 90) || (nat_le 97 c && nat_le c 122)

-- blank, tab, line feed, carriage return
abbrev pub is_separator : ℕ → Bool
is_separator c = c == 32 || (c == 9 || (c == 10 || c == 13))

-- what is none of these is a sign
abbrev pub class_of : ℕ → Class
class_of c = cond (is_digit c) Digit (cond (is_comma c) Comma (cond (is_letter c) Letter (cond (is_separator c) Separator Sign)))
