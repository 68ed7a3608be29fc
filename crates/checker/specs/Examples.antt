-- Two small images.
use Rattle.std.specs.Prelude.{◌≡◌, ℕ, List, [], ◌∷◌}
use Rattle.image.specs.Example.{example_words}
use Rattle.checker.specs.Passes.{Passes}
use Rattle.checker.specs.Refusals.{no_to}
use Rattle.checker.specs.Verdict.{passed, refused, verdict_of}

-- a sentence of bits that assigns to a word marker
abbrev pub mixed_words : List ℕ
mixed_words =
    1 ∷ 0 ∷ 8 ∷ 1 ∷ 30 ∷ 28688 ∷ 51 ∷ 0
    ∷ 14 ∷ 4 ∷ 0 ∷ 0 ∷ 90 ∷ 44081
    ∷ []

-- one passes with nine items and two cells; the other gets a no from question 8 at its third item
abbrev pub ExamplesHold : Type 0
ExamplesHold =
    (verdict_of example_words ≡ passed 9 2)
    × Passes example_words
    × (verdict_of mixed_words ≡ refused (no_to 8 2))
    × (Passes mixed_words → ⊥)
