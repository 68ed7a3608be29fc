-- The laws, over all sound memories.
use Rattle.std.proofs.Common.{List, ℤ, refl}
use Rattle.operand.specs.Codes.{place_of}
use Rattle.store.specs.declared.store.Store.{Store}
use Rattle.memory.specs.Keeps.{StaysSound, LawsHold}
use Rattle.memory.specs.Laws.{LendsHistory}
use Rattle.memory.specs.Readings.{value_of, cell_of}
use Rattle.memory.specs.Writings.{new_memory, stored, constant_loaded, inputs_loaded, input_word_loaded, cell_stored, cleared, cells_cleared, history_put}
use Rattle.memory.proofs.Alike.{alike_law}
use Rattle.memory.proofs.Frames.{only_history}
use Rattle.memory.proofs.Held.{held_new, held_stored, held_constant, held_group, held_word, held_cell, held_cleared, held_cells, held_history}
use Rattle.memory.proofs.Loaded.{inputs_law, input_word_law, cleared_law, cells_law}
use Rattle.memory.proofs.Sounds.{sound_from, held_from}
use Rattle.memory.proofs.Stored.{stores_law, constant_law, cell_law}

pub stays_sound : StaysSound
unfolding new_memory stored constant_loaded inputs_loaded input_word_loaded cell_stored cleared cells_cleared history_put
stays_sound = record {
  new = sound_from new_memory held_new;
  store = λ m h o v. sound_from (stored m o v) (held_stored m (held_from m h) o.kind (place_of o) v);
  constant = λ m h o v. sound_from (constant_loaded m o v) (held_constant m (held_from m h) o.kind (place_of o) v);
  inputs = λ m h g w. sound_from (inputs_loaded m g w) (held_group m (held_from m h) g w);
  input_word = λ m h p w. sound_from (input_word_loaded m p w) (held_word m (held_from m h) p w);
  cell = λ m h c v. sound_from (cell_stored m c v) (held_cell m (held_from m h) c v);
  clear = λ m h k a b. sound_from (cleared m k a b) (held_cleared m (held_from m h) k a b);
  clear_cells = λ m h. sound_from (cells_cleared m) (held_cells m (held_from m h));
  history = λ m h cells e. sound_from (history_put m cells) (held_history m (held_from m h) cells e);
}

history_law : (m : Store) (cells : List ℤ) → LendsHistory m (history_put m cells) cells
unfolding history_put value_of cell_of
history_law m cells = record { back = λ c. refl; operands = λ q n. only_history m q.kind (place_of q) cells }

pub laws_hold : LawsHold
laws_hold = record {
  store = λ m h o v. stores_law m (held_from m h) o v;
  constant = λ m h o v. constant_law m (held_from m h) o v;
  inputs = λ m h g w. inputs_law m (held_from m h) g w;
  input_word = λ m h p w. input_word_law m (held_from m h) p w;
  cell = λ m h c v. cell_law m (held_from m h) c v;
  clear = λ m h k a b. cleared_law m (held_from m h) k a b;
  clear_cells = λ m h. cells_law m (held_from m h);
  history = history_law;
  alike = λ m n hm hn o q v e. alike_law m n (held_from m hm) (held_from n hn) o q v e;
}
