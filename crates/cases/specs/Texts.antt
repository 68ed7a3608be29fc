-- The text of a case: `TEXT|`, or `FRONT|PART|TIMES|BACK|` where PART stands many times.
use Rattle.std.specs.Prelude.{ℕ, zero, suc, Bool, List, [], ◌∷◌, ◌++◌, ◌==◌}
use Rattle.std.specs.List.{before_first, after_first}
use Rattle.std.specs.Str.Parse.{digits_value, without_leading_plus}
use Rattle.cases.specs.Escapes.{unescaped}
use Rattle.cases.specs.declared.escape.Escape.TheVariants.{Nothing}

abbrev pub is_bar : ℕ → Bool
is_bar b = b == 124

abbrev pub before_bar : List ℕ → List ℕ
before_bar s = before_first is_bar s

abbrev pub after_bar : List ℕ → List ℕ
after_bar s = after_first is_bar s

abbrev pub shown_by : List ℕ → List ℕ
shown_by s = unescaped Nothing s

-- a text many times
unfoldable pub copies : ℕ → List ℕ → List ℕ
copies zero xs = []
copies (suc n) xs = copies n xs ++ xs

-- PART as often as it stands, and BACK
abbrev pub many_of : List ℕ → List ℕ
many_of s =
    copies (digits_value 10 (without_leading_plus (before_bar (after_bar s)))) (shown_by (before_bar s))
    ++ shown_by (before_bar (after_bar (after_bar s)))

-- what stands behind FRONT, if anything does
abbrev pub behind : List ℕ → List ℕ
behind [] = []
behind (b ∷ bs) = many_of (b ∷ bs)

abbrev pub text_of : List ℕ → List ℕ
text_of s = shown_by (before_bar s) ++ behind (after_bar s)
