-- The bytes that a text shows.
use Rattle.std.specs.Prelude.{ℕ, ◌+◌, ◌-◌, ◌*◌, ◌%◌, cond, ◌&&◌, List, [], ◌∷◌, ◌++◌, Option, Some, None, ◌==◌, nat_le}
use Rattle.cases.specs.declared.escape.Escape.{Escape}
use Rattle.cases.specs.declared.escape.Escape.TheVariants.{Nothing, Letter, HighDigit, LowDigit}

-- a digit of a number to the base 16; any other byte counts as 0
abbrev pub digit : ℕ → ℕ
digit b = cond (nat_le 48 b && nat_le b 57) (b - 48) (cond (nat_le 97 b && nat_le b 102) (b - 97 + 10) 0)

-- the byte that a letter behind a backslash stands for: n, r, t; x begins two digits; any other stands for itself
abbrev pub lettered : ℕ → Option ℕ
lettered b = cond (b == 110) (Some 10) (cond (b == 114) (Some 13) (cond (b == 116) (Some 9) (cond (b == 120) None (Some b))))

-- the byte that b completes
abbrev pub given : Escape → ℕ → Option ℕ
given Nothing b = cond (b == 92) None (Some b)
given Letter b = lettered b
given HighDigit b = None
given (LowDigit high) b = Some ((high * 16 % 256 + digit b) % 256)

-- what is asked of the byte behind b
abbrev pub awaited : Escape → ℕ → Escape
awaited Nothing b = cond (b == 92) Letter Nothing
awaited Letter b = cond (b == 120) HighDigit Nothing
awaited HighDigit b = LowDigit (digit b)
awaited (LowDigit high) b = Nothing

abbrev pub bytes_of : Option ℕ → List ℕ
bytes_of None = []
bytes_of (Some b) = b ∷ []

-- the bytes that a text shows, behind what the bytes before ask of it
unfoldable pub unescaped : Escape → List ℕ → List ℕ
unescaped e [] = []
unescaped e (b ∷ bs) = bytes_of (given e b) ++ unescaped (awaited e b) bs
