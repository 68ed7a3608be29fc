-- A chain of sixteen steps: the step that is set.
use Rattle.std.specs.Prelude.{ℕ, Bool, ◌==◌}
use Rattle.store.specs.declared.chain.Chain.{Chain}

-- a step is set when it is the chain's
abbrev pub is_set : Chain → ℕ → Bool
is_set c step = c.set == step

-- the chain once a step is set: no other is
abbrev pub moved_to : Chain → ℕ → Chain
moved_to c step = record { set = step }

-- a new chain, and a cleared one
abbrev pub at_rest : Chain
at_rest = record { set = 0 }

-- what stands for a chain that memory does not have: none of its steps 0 to 15 is set
abbrev pub no_chain : Chain
no_chain = record { set = 16 }
