-- The laws over all sound memories, for definitions that are made of several changes.
use Rattle.std.specs.Prelude.{◌≡◌, ℕ, List, length, ℤ}
use Rattle.operand.specs.declared.kind.Kind.{Kind}
use Rattle.operand.specs.declared.operand.Operand.{Operand}
use Rattle.store.specs.declared.store.Store.{Store}
use Rattle.memory.specs.Laws.{Stores, StoresCell, LoadsConstant, LoadsInputs, LoadsInputWord, Clears, ClearsCells, LendsHistory}
use Rattle.memory.specs.Readings.{value_of}
use Rattle.memory.specs.Sound.{Sound}
use Rattle.memory.specs.Writings.{new_memory, stored, constant_loaded, inputs_loaded, input_word_loaded, cell_stored, cleared, cells_cleared, history_put}

-- new memory is sound, and what is sound stays so
pub record StaysSound : Type 0 where
  pub new : Sound new_memory
  pub store : (m : Store) → Sound m → (o : Operand) (v : ℤ) → Sound (stored m o v)
  pub constant : (m : Store) → Sound m → (o : Operand) (v : ℤ) → Sound (constant_loaded m o v)
  pub inputs : (m : Store) → Sound m → (group w : ℕ) → Sound (inputs_loaded m group w)
  pub input_word : (m : Store) → Sound m → (p w : ℕ) → Sound (input_word_loaded m p w)
  pub cell : (m : Store) → Sound m → (c : ℕ) (v : ℤ) → Sound (cell_stored m c v)
  pub clear : (m : Store) → Sound m → (k : Kind) (first last : ℕ) → Sound (cleared m k first last)
  pub clear_cells : (m : Store) → Sound m → Sound (cells_cleared m)
  pub history : (m : Store) → Sound m → (cells : List ℤ) → length cells ≡ length m.history → Sound (history_put m cells)

-- what each change does to operands and cells
pub record LawsHold : Type 0 where
  pub store : (m : Store) → Sound m → (o : Operand) (v : ℤ) → Stores m (stored m o v) o v
  pub constant : (m : Store) → Sound m → (o : Operand) (v : ℤ) → LoadsConstant m (constant_loaded m o v) o v
  pub inputs : (m : Store) → Sound m → (group w : ℕ) → LoadsInputs m (inputs_loaded m group w) group w
  pub input_word : (m : Store) → Sound m → (p w : ℕ) → LoadsInputWord m (input_word_loaded m p w) p w
  pub cell : (m : Store) → Sound m → (c : ℕ) (v : ℤ) → StoresCell m (cell_stored m c v) c v
  pub clear : (m : Store) → Sound m → (k : Kind) (first last : ℕ) → Clears m (cleared m k first last) k first last
  pub clear_cells : (m : Store) → Sound m → ClearsCells m (cells_cleared m)
  pub history : (m : Store) (cells : List ℤ) → LendsHistory m (history_put m cells) cells
  -- what an operand reads after a store depends on nothing else that memory held
  pub alike : (m n : Store) → Sound m → Sound n → (o q : Operand) (v : ℤ) → value_of m q ≡ value_of n q → value_of (stored m o v) q ≡ value_of (stored n o v) q
