-- What memory holds after a change. These definitions stay shut for the crates above, which go by the laws.
use Rattle.std.specs.Prelude.{ℕ, List, ℤ}
use Rattle.operand.specs.declared.kind.Kind.{Kind}
use Rattle.operand.specs.declared.operand.Operand.{Operand}
use Rattle.operand.specs.Codes.{place_of}
use Rattle.store.specs.declared.store.Store.{Store}
use Rattle.store.specs.Changes.{new_store, stored_at, constant_at, group_loaded, word_loaded, cell_put, cells_cleared as all-cells-cleared, cleared_at, with_history}

-- all 0, and step 0 set in each chain
unfoldable pub new_memory : Store
new_memory = new_store

-- v stored in an operand of a kind that lists write; in any other nothing is
unfoldable pub stored : Store → Operand → ℤ → Store
stored m o v = stored_at m o.kind (place_of o) v

-- v loaded as a constant
unfoldable pub constant_loaded : Store → Operand → ℤ → Store
constant_loaded m o v = constant_at m o.kind (place_of o) v

-- the inputs of a group loaded from a word, channel 0 from the lowest bit
unfoldable pub inputs_loaded : Store → ℕ → ℕ → Store
inputs_loaded m group w = group_loaded m group w

-- an input word loaded as it came
unfoldable pub input_word_loaded : Store → ℕ → ℕ → Store
input_word_loaded m p w = word_loaded m p w

-- a history cell stored
unfoldable pub cell_stored : Store → ℕ → ℤ → Store
cell_stored m c v = cell_put m c v

-- the groups of a kind from first to last cleared
unfoldable pub cleared : Store → Kind → ℕ → ℕ → Store
cleared m k first last = cleared_at m k first last

-- all history cells 0
unfoldable pub cells_cleared : Store → Store
cells_cleared m = all-cells-cleared m

-- the history cells as a block left them
unfoldable pub history_put : Store → List ℤ → Store
history_put m cells = with_history m cells
