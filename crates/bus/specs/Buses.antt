-- The CS31 bus: a list of module records, of which the first of a point counts.
use Rattle.std.specs.Prelude.{◌≡◌, ℕ, ◌+◌, ◌*◌, ◌/◌, ◌%◌, ◌<◌, Bool, cond, ◌||◌, List, [], ◌∷◌, length, get_or, ◌==◌, ◌≢◌, nat_le, nat_lt, slice_index_or, slice_set}
use Rattle.std.proofs.lemmas.Bool.{le-ltb, cond-false}
use Rattle.plant.specs.Points.{Point, absent, wired, Meaning, Inside}
use Rattle.bus.specs.declared.Module.{Module}

-- what a record says of its point, each word low byte first
abbrev pub wired_by : Module → Point
wired_by m = wired (m.input_low + 256 * m.input_high) (m.output_low + 256 * m.output_high)

-- what the first record of a point says
abbrev pub look : List Module → ℕ → Point
look [] p = absent
look (m ∷ ms) p = cond (m.point == p) (wired_by m) (look ms p)

abbrev pub on_bus : List Module → Meaning
on_bus ms = λ p. cond (nat_lt p 192) (look ms p) absent

-- the record with a word as its output
abbrev pub driven : Module → ℕ → Module
driven m w = record { point = m.point; input_low = m.input_low; input_high = m.input_high; output_low = w % 256; output_high = w / 256 }

-- what is read past the end of the records
abbrev pub blank : Module
blank = record { point = 0; input_low = 0; input_high = 0; output_low = 0; output_high = 0 }

-- no record before place i is of the point
abbrev pub NoneBelow : List Module → ℕ → ℕ → Type 0
NoneBelow ms p i = (k : ℕ) → k < i → (get_or ms k blank).point ≢ p

-- the record at place i is the first of the point
pub record First (ms : List Module) (p i : ℕ) : Type 0 where
  pub within : i < length ms
  pub here : (get_or ms i blank).point ≡ p
  pub before : NoneBelow ms p i

-- the record at place i is what the bus shows at the point
pub record Shown (ms : List Module) (p i : ℕ) : Type 0 where
  pub within : i < length ms
  pub shown : on_bus ms p ≡ wired_by (slice_index_or ms i blank)

-- the first record of the point has the word written as its output
pub record Written (ms : List Module) (p w : ℕ) (ns : List Module) : Type 0 where
  pub place : ℕ
  pub fit : p < 192
  pub first : First ms p place
  pub now : ns ≡ slice_set ms place (driven (slice_index_or ms place blank) w)

-- the first record of the point, which the bus shows, has the word as its output and is else as before; so is every other record, a second of the point too
pub record Driven (ms : List Module) (p w : ℕ) (ns : List Module) : Type 0 where
  pub place : ℕ
  pub first : First ms p place
  pub shown : on_bus ms p ≡ wired_by (slice_index_or ms place blank)
  pub there : get_or ns place blank ≡ driven (slice_index_or ms place blank) w
  pub elsewhere : (k : ℕ) → (k ≢ place) → slice_index_or ns k blank ≡ slice_index_or ms k blank
  pub long : length ns ≡ length ms

-- the records without the outputs that count: those of the first record of each point up to 191
abbrev pub besides_seen : (ℕ → Bool) → List Module → List Module
besides_seen seen [] = []
besides_seen seen (m ∷ ms) = cond (seen m.point) m (driven m 0) ∷ besides_seen (λ p. (m.point == p) || seen p) ms

abbrev pub besides : List Module → List Module
besides ms = besides_seen (λ p. nat_le 192 p) ms

pub bus_inside : (ms : List Module) → Inside (on_bus ms)
bus_inside ms k past = cond-false _ _ _ (le-ltb k 192 past)
