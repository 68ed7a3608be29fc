-- Bytes laid into a buffer.
use Rattle.std.specs.Prelude.{◌≡◌, ℕ, ◌+◌, ◌-◌, ◌^◌, ◌<◌, ◌≤◌, min, List, ◌++◌, length, take, drop}
use Rattle.lay.specs.declared.pen.Pen.{Pen}

-- The bytes bs were laid into the buffer old from place `at` on, and it is new now: all of them where there is room for them.
-- Room or not, `next` is the place behind them (as far as 64 bits count).
pub record Lays (old : List ℕ) (at : ℕ) (bs new : List ℕ) (next : ℕ) : Type 0 where
  pub counts : next ≡ min (at + length bs) (2 ^ 64 - 1)
  pub front : at + length bs ≤ length old → take (at + length bs) new ≡ take at old ++ bs
  pub rest : at + length bs ≤ length old → drop (at + length bs) new ≡ drop (at + length bs) old
  pub same_length : length new ≡ length old
  pub in_memory : length old < 2 ^ 64

-- The pen laid the bytes bs behind what it had written, into the same buffer.
pub record Puts (old : Pen) (bs : List ℕ) (new : Pen) : Type 0 where
  pub lays : Lays old.out.now old.at bs new.out.now new.at
  pub lender : new.out.ghost_name ≡ old.out.ghost_name
