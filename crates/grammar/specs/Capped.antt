-- A question that gives up on a nesting that no memory could hold.
use Rattle.std.specs.Prelude.{ℕ, ◌-◌, ◌^◌, cond, None, nat_lt}
use Rattle.rule.specs.Automata.{Automaton}

-- the same question, which refuses every item once its size has come to the limit
abbrev pub capped : {S : Type 0} → ℕ → (S → ℕ) → Automaton S → Automaton S
capped n size a = record { start = a.start; step = λ s i. cond (nat_lt (size s) n) (a.step s i) None; ends = a.ends }

-- more brackets than a count of 64 bits holds: no list in memory is that long
abbrev pub deepest : ℕ
deepest = 2 ^ 64 - 1
