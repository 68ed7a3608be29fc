-- A plant's meaning: what stands at each point. Points 0 to 63 are the groups of E and A, channel 0 the lowest bit; 64 to 191 the places of EW and AW.
use Rattle.std.specs.Prelude.{◌≡◌, ℕ, ◌≤◌, cond, Ok, Err, Result, ◌==◌}
use Rattle.plant.specs.declared.fault.PlantFault.{PlantFault}

-- not fitted, or fitted with an input word and an output word
pub data Point : Type 0 where
  absent : Point
  wired : ℕ → ℕ → Point

abbrev pub Meaning : Type 0
Meaning = ℕ → Point

-- no point past 191 is fitted
abbrev pub Inside : Meaning → Type 0
Inside m = (k : ℕ) → 192 ≤ k → m k ≡ absent

abbrev pub Fitted : Point → Type 0
Fitted absent = ⊥
Fitted (wired i o) = Unit {0}

-- the point with another output word; one that is not fitted stays so
abbrev pub driven : Point → ℕ → Point
driven absent w = absent
driven (wired i o) w = wired i w

-- the meaning once a word is put at p: only that output is another
abbrev pub put_at : Meaning → ℕ → ℕ → Meaning
put_at m p w = λ k. cond (k == p) (driven (m k) w) (m k)

abbrev pub fault_at : ℕ → ℕ → PlantFault
fault_at layer p = record { point = p; layer = layer }

-- what fitted and put answer where the plant has this at point p
abbrev pub fits : Point → ℕ → ℕ → Result (Unit {0}) PlantFault
fits absent layer p = Err (fault_at layer p)
fits (wired i o) layer p = Ok tt

-- what take answers
abbrev pub taken : Point → ℕ → ℕ → Result ℕ PlantFault
taken absent layer p = Err (fault_at layer p)
taken (wired i o) layer p = Ok i

-- what a make may keep a note of: a take or a put that was not refused, with point and word
pub data Deed : Type 0 where
  took : ℕ → ℕ → Deed
  gave : ℕ → ℕ → Deed

-- what is kept once the deed was asked of a point: a refusal leaves no note
abbrev pub noted_take : {K : Type 0} → (K → Deed → K) → K → ℕ → Point → K
noted_take note q p absent = q
noted_take note q p (wired i o) = note q (took p i)

abbrev pub noted_put : {K : Type 0} → (K → Deed → K) → K → ℕ → ℕ → Point → K
noted_put note q p w absent = q
noted_put note q p w (wired i o) = note q (gave p w)
