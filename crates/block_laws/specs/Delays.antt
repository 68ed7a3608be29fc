-- ESV and MOA over any row of scans.
use Rattle.std.specs.Prelude.{◌≡◌, ℕ, ◌+◌, min, true, false, not, List, [], ◌∷◌, ◌++◌, ℤ, pos, nat_le}
use Rattle.number.specs.Limits.{top_of}
use Rattle.number.specs.Operations.{natural}
use Rattle.number.specs.declared.limit.Width.TheVariants.{Double}
use Rattle.blocks.specs.Pins.{on, bit}
use Rattle.blocks.specs.Timing.{delay}
use Rattle.blocks.specs.Esv.{esv}
use Rattle.blocks.specs.Moa.{moa}
use Rattle.block_laws.specs.Rows.{Scan, output, t_of, last_t, all_on, total_ms}

-- At the end of the row T is 1, and has been for that many ms: those of the scans after its rise;
-- where T was kept as 1 from before the row, those elapsed before and those of all its scans.
pub data OnFor (t e c : ℤ) : List Scan → ℕ → Type 0 where
  rose : (earlier held : List Scan) (rise : Scan)
      → last_t earlier (t ∷ e ∷ c ∷ []) ≡ false → t_of rise ≡ true → all_on held ≡ true
      → OnFor t e c (held ++ (rise ∷ earlier)) (total_ms held)
  stayed : (held : List Scan) → on t ≡ true → all_on held ≡ true → OnFor t e c held (natural e + total_ms held)

-- for any cells before, any row and any scan that follows it
pub record Delays (t e c : ℤ) (s : Scan) (earlier : List Scan) : Type 0 where
  -- whenever T is 1, it has been 1 for some time
  pub timed : t_of s ≡ true → (ms : ℕ) × OnFor t e c (s ∷ earlier) ms
  -- then ESV is 1 exactly from the rounded delay on
  pub esv_on : (ms : ℕ) → OnFor t e c (s ∷ earlier) ms → output esv 0 s earlier (t ∷ e ∷ c ∷ []) ≡ bit (nat_le (delay s.inputs) (min ms (top_of Double)))
  pub esv_off : t_of s ≡ false → output esv 0 s earlier (t ∷ e ∷ c ∷ []) ≡ pos 0
  -- and MOA is 1 exactly until then
  pub moa_on : t_of s ≡ true → on (output moa 0 s earlier (t ∷ e ∷ c ∷ [])) ≡ not (on (output esv 0 s earlier (t ∷ e ∷ c ∷ [])))
  pub moa_off : t_of s ≡ false → output moa 0 s earlier (t ∷ e ∷ c ∷ []) ≡ pos 0

abbrev pub DelaysHold : Type 0
DelaysHold = (t e c : ℤ) (s : Scan) (earlier : List Scan) → Delays t e c s earlier
