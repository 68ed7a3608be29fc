-- I+ and CTUD count the rises of a row of scans.
use Rattle.std.specs.Prelude.{◌≡◌, ℕ, ◌+◌, min, Bool, true, cond, not, ◌&&◌, List, [], ◌∷◌, ℤ, pos}
use Rattle.number.specs.Limits.{top_of}
use Rattle.number.specs.declared.limit.Width.TheVariants.{Word}
use Rattle.blocks.specs.Pins.{on, bit_at}
use Rattle.blocks.specs.RisingEdge.{rising_edge}
use Rattle.blocks.specs.Ctud.{ctud}
use Rattle.block_laws.specs.Rows.{Scan, output, t_of, last_t}

abbrev pub one_if : Bool → ℕ
one_if b = cond b 1 0

-- how often T goes from 0 to 1
abbrev pub rises_in : List Scan → List ℤ → ℕ
rises_in [] cells = 0
rises_in (s ∷ earlier) cells = one_if (t_of s && not (last_t earlier cells)) + rises_in earlier cells

-- in how many scans I+ shows 1
abbrev pub pulses : List Scan → List ℤ → ℕ
pulses [] cells = 0
pulses (s ∷ earlier) cells = one_if (on (output rising_edge 0 s earlier cells)) + pulses earlier cells

-- one pulse for each rise, whatever the cells kept before
abbrev pub PulsesHold : Type 0
PulsesHold = (row : List Scan) (a b c : ℤ) → pulses row (a ∷ b ∷ c ∷ []) ≡ rises_in row (a ∷ b ∷ c ∷ [])

-- CD, RESET and LOAD are 0
abbrev pub only_up : Scan → Bool
only_up s = not (bit_at s.inputs 1) && (not (bit_at s.inputs 2) && not (bit_at s.inputs 3))

abbrev pub all_only_up : List Scan → Bool
all_only_up [] = true
all_only_up (s ∷ earlier) = only_up s && all_only_up earlier

-- a counter at 0 that is only counted up tells the number of rises, up to the largest word
abbrev pub CountsHold : Type 0
CountsHold = (s : Scan) (earlier : List Scan) (cu cd : ℤ) → all_only_up (s ∷ earlier) ≡ true
    → output ctud 2 s earlier (cu ∷ cd ∷ pos 0 ∷ []) ≡ pos (min (rises_in (s ∷ earlier) (cu ∷ cd ∷ pos 0 ∷ [])) (top_of Word))
