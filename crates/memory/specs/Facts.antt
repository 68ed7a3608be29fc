-- What is true of every memory, as tests of its arrays.
use Rattle.std.specs.Prelude.{ℕ, Bool, true, ◌&&◌, List, [], ◌∷◌, length, ℤ, nat_lt}
use Rattle.number.specs.Limits.{lawful}
use Rattle.number.specs.declared.limit.Width.{Width}
use Rattle.store.specs.declared.chain.Chain.{Chain}
use Rattle.store.specs.declared.store.Store.{Store}

-- the test passes at each element
abbrev pub every : {X : Type 0} → (X → Bool) → List X → Bool
every t [] = true
every t (x ∷ xs) = t x && every t xs

-- the step set is one of the sixteen
abbrev pub in_chain : Chain → Bool
in_chain c = nat_lt c.set 16

abbrev pub steps_lawful : List Chain → Bool
steps_lawful cs = every in_chain cs

-- no value is the forbidden one of its width
abbrev pub all_lawful : Width → List ℤ → Bool
all_lawful w zs = every (lawful w) zs

-- how many places each array has
abbrev pub sizes_of : Store → List ℕ
sizes_of m =
    length m.inputs
    ∷ length m.outputs
    ∷ length m.markers
    ∷ length m.chains
    ∷ length m.input_words
    ∷ length m.output_words
    ∷ length m.marker_words
    ∷ length m.constant_words
    ∷ length m.marker_doubles
    ∷ length m.constant_doubles
    ∷ length m.history
    ∷ []

abbrev pub all_sizes : List ℕ
all_sizes = 1024 ∷ 1024 ∷ 4096 ∷ 128 ∷ 128 ∷ 128 ∷ 4096 ∷ 640 ∷ 512 ∷ 128 ∷ 1024 ∷ []
