-- How a text is cut into its parts: the longest runs of bytes that are no separators.
use Rattle.std.specs.Prelude.{◌≡◌, ℕ, suc, ◌+◌, true, false, cond, List, [], ◌∷◌, ◌++◌, length}
use Rattle.character.specs.Classes.{is_separator}

-- a part of a text: its bytes, and the place of the first
pub record Part : Type 0 where
  pub place : ℕ
  pub bytes : List ℕ

-- no byte is a separator
abbrev pub Unbroken : List ℕ → Type 0
Unbroken [] = Unit {0}
Unbroken (c ∷ cs) = (is_separator c ≡ false) × Unbroken cs

-- the text ends here, or a separator stands here
abbrev pub Stops : List ℕ → Type 0
Stops [] = Unit {0}
Stops (c ∷ cs) = is_separator c ≡ true

-- a text from place p on is separators and parts; a part is an unbroken run that goes on to a separator or to the end
pub data Cut : ℕ → List ℕ → List Part → Type 0 where
  none : {p : ℕ} → Cut p [] []
  skip : {p c : ℕ} {cs : List ℕ} {ps : List Part} → is_separator c ≡ true → Cut (suc p) cs ps → Cut p (c ∷ cs) ps
  take : {p c : ℕ} {cs rest : List ℕ} {ps : List Part} → Unbroken (c ∷ cs) → Stops rest → Cut (p + length (c ∷ cs)) rest ps
      → Cut p ((c ∷ cs) ++ rest) (record { place = p; bytes = c ∷ cs } ∷ ps)

-- the byte c at place p goes in front of the part that begins at the next place
abbrev pub extend : ℕ → ℕ → List Part → List Part
extend p c [] = record { place = p; bytes = c ∷ [] } ∷ []
extend p c (w ∷ ws) = record { place = p; bytes = c ∷ w.bytes } ∷ ws

abbrev pub glue : ℕ → ℕ → List ℕ → List Part → List Part
glue p c [] ws = record { place = p; bytes = c ∷ [] } ∷ ws
glue p c (d ∷ ds) ws = cond (is_separator d) (record { place = p; bytes = c ∷ [] } ∷ ws) (extend p c ws)

-- the parts of a text that begins at place p
abbrev pub parts_of : ℕ → List ℕ → List Part
parts_of p [] = []
parts_of p (c ∷ cs) = cond (is_separator c) (parts_of (suc p) cs) (glue p c cs (parts_of (suc p) cs))

-- the parts are exactly those that the text is cut into
abbrev pub PartsAreTheCut : Type 0
PartsAreTheCut = ((p : ℕ) (bs : List ℕ) → Cut p bs (parts_of p bs)) × ((p : ℕ) (bs : List ℕ) (ps : List Part) → Cut p bs ps → ps ≡ parts_of p bs)
