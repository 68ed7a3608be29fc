-- The first place where a test holds.
use Rattle.std.specs.Prelude.{◌≡◌, ℕ, zero, suc, ◌+◌, ◌-◌, ◌<◌, ◌≤◌, Bool, true, cond, Some, None, Option, ◌≢◌}

-- of n places from p on
unfoldable pub first_of : (ℕ → Bool) → ℕ → ℕ → Option ℕ
first_of test zero p = None
first_of test (suc n) p = cond (test p) (Some p) (first_of test n (p + 1))

-- from p on and below the end
abbrev pub first_place : (ℕ → Bool) → ℕ → ℕ → Option ℕ
first_place test p end = first_of test (end - p) p

-- the same in words: the test holds there, and nowhere before; or it holds nowhere
abbrev pub First : (ℕ → Bool) → ℕ → ℕ → Option ℕ → Type 0
First test p end (Some q) = (p ≤ q) × (q < end) × (test q ≡ true) × ((k : ℕ) → p ≤ k → k < q → test k ≢ true)
First test p end None = (k : ℕ) → p ≤ k → k < end → test k ≢ true
