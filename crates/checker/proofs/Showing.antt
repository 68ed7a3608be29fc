-- The verdicts on the two small images, computed.
use Rattle.std.proofs.Common.{◌≡◌, ℕ, zero, suc, ◌<◌, Bool, true, ◌&&◌, ltb, List, [], ◌∷◌, get_or, refl, arith}
use Rattle.std.proofs.lemmas.Bool.Decides.{nat_tests}
use Rattle.image.specs.Example.{example_words}
use Rattle.rule.specs.Automata.{fault_from}
use Rattle.decode.specs.Words.{items_of}
use Rattle.constants.specs.Decoded.{constants_of}
use Rattle.constants.specs.Lawful.{constant_fault}
use Rattle.marks.specs.Places.{first_of}
use Rattle.marks.specs.Cells.{cells_before}
use Rattle.checker.specs.Examples.{mixed_words, ExamplesHold}
use Rattle.checker.specs.Refusals.{no_to}
use Rattle.checker.specs.Verdict.{passed, refused, verdict_of}
use Rattle.checker.proofs.Passing.{sound, complete}

passes : verdict_of example_words ≡ passed 9 2
unfolding verdict_of fault_from items_of constants_of constant_fault first_of cells_before
passes = refl

mixed : verdict_of mixed_words ≡ refused (no_to 8 2)
unfolding verdict_of fault_from items_of constants_of constant_fault first_of cells_before
mixed = refl

-- a list whose numbers all pass a test
abbrev small : List ℕ → Bool
small [] = true
small (w ∷ ws) = ltb w 65536 && small ws

small_at : (ws : List ℕ) → small ws ≡ true → (i : ℕ) → get_or ws i 0 < 65536
small_at [] h i = omega arith
small_at (w ∷ ws) h zero = grind (arith, nat_tests)
small_at (w ∷ ws) h (suc i) = small_at ws (grind (arith, nat_tests)) i

pub examples_hold : ExamplesHold
examples_hold = (passes, sound example_words (small_at example_words refl) 9 2 passes, mixed, (λ p. let v = complete mixed_words p in let m = mixed in cc))
