-- What memory holds after a change.
use Rattle.std.specs.Prelude.{ℕ, ◌+◌, ◌-◌, ◌*◌, ◌/◌, ◌%◌, Bool, false, cond, List, replicate, ℤ, pos, slice_index_or, slice_set}
use Rattle.number.specs.Limits.{limited_to}
use Rattle.number.specs.declared.limit.Width.TheVariants.{Word, Double}
use Rattle.operand.specs.declared.kind.Kind.{Kind}
use Rattle.operand.specs.declared.kind.Kind.TheVariants.{Input, Output, Marker, Step, Constant, InputWord, OutputWord, MarkerWord, ConstantWord, MarkerDouble, ConstantDouble}
use Rattle.store.specs.declared.chain.Chain.{Chain}
use Rattle.store.specs.declared.store.Store.{Store}
use Rattle.store.specs.Chains.{at_rest, moved_to, no_chain}
use Rattle.store.specs.Words.{truth}
use Rattle.store.specs.Places.{filled, spread}

-- memory with one array exchanged

abbrev pub with_inputs : Store → List Bool → Store
with_inputs m xs = record { inputs = xs; outputs = m.outputs; markers = m.markers; chains = m.chains; input_words = m.input_words; output_words = m.output_words; marker_words = m.marker_words; constant_words = m.constant_words; marker_doubles = m.marker_doubles; constant_doubles = m.constant_doubles; history = m.history }

abbrev pub with_outputs : Store → List Bool → Store
with_outputs m xs = record { inputs = m.inputs; outputs = xs; markers = m.markers; chains = m.chains; input_words = m.input_words; output_words = m.output_words; marker_words = m.marker_words; constant_words = m.constant_words; marker_doubles = m.marker_doubles; constant_doubles = m.constant_doubles; history = m.history }

abbrev pub with_markers : Store → List Bool → Store
with_markers m xs = record { inputs = m.inputs; outputs = m.outputs; markers = xs; chains = m.chains; input_words = m.input_words; output_words = m.output_words; marker_words = m.marker_words; constant_words = m.constant_words; marker_doubles = m.marker_doubles; constant_doubles = m.constant_doubles; history = m.history }

abbrev pub with_chains : Store → List Chain → Store
with_chains m xs = record { inputs = m.inputs; outputs = m.outputs; markers = m.markers; chains = xs; input_words = m.input_words; output_words = m.output_words; marker_words = m.marker_words; constant_words = m.constant_words; marker_doubles = m.marker_doubles; constant_doubles = m.constant_doubles; history = m.history }

abbrev pub with_input_words : Store → List ℕ → Store
with_input_words m xs = record { inputs = m.inputs; outputs = m.outputs; markers = m.markers; chains = m.chains; input_words = xs; output_words = m.output_words; marker_words = m.marker_words; constant_words = m.constant_words; marker_doubles = m.marker_doubles; constant_doubles = m.constant_doubles; history = m.history }

abbrev pub with_output_words : Store → List ℤ → Store
with_output_words m xs = record { inputs = m.inputs; outputs = m.outputs; markers = m.markers; chains = m.chains; input_words = m.input_words; output_words = xs; marker_words = m.marker_words; constant_words = m.constant_words; marker_doubles = m.marker_doubles; constant_doubles = m.constant_doubles; history = m.history }

abbrev pub with_marker_words : Store → List ℤ → Store
with_marker_words m xs = record { inputs = m.inputs; outputs = m.outputs; markers = m.markers; chains = m.chains; input_words = m.input_words; output_words = m.output_words; marker_words = xs; constant_words = m.constant_words; marker_doubles = m.marker_doubles; constant_doubles = m.constant_doubles; history = m.history }

abbrev pub with_constant_words : Store → List ℤ → Store
with_constant_words m xs = record { inputs = m.inputs; outputs = m.outputs; markers = m.markers; chains = m.chains; input_words = m.input_words; output_words = m.output_words; marker_words = m.marker_words; constant_words = xs; marker_doubles = m.marker_doubles; constant_doubles = m.constant_doubles; history = m.history }

abbrev pub with_marker_doubles : Store → List ℤ → Store
with_marker_doubles m xs = record { inputs = m.inputs; outputs = m.outputs; markers = m.markers; chains = m.chains; input_words = m.input_words; output_words = m.output_words; marker_words = m.marker_words; constant_words = m.constant_words; marker_doubles = xs; constant_doubles = m.constant_doubles; history = m.history }

abbrev pub with_constant_doubles : Store → List ℤ → Store
with_constant_doubles m xs = record { inputs = m.inputs; outputs = m.outputs; markers = m.markers; chains = m.chains; input_words = m.input_words; output_words = m.output_words; marker_words = m.marker_words; constant_words = m.constant_words; marker_doubles = m.marker_doubles; constant_doubles = xs; history = m.history }

abbrev pub with_history : Store → List ℤ → Store
with_history m xs = record { inputs = m.inputs; outputs = m.outputs; markers = m.markers; chains = m.chains; input_words = m.input_words; output_words = m.output_words; marker_words = m.marker_words; constant_words = m.constant_words; marker_doubles = m.marker_doubles; constant_doubles = m.constant_doubles; history = xs }

-- new memory: all 0, and step 0 set in each chain
abbrev pub new_store : Store
new_store = record {
  inputs = replicate 1024 false;
  outputs = replicate 1024 false;
  markers = replicate 4096 false;
  chains = replicate 128 at_rest;
  input_words = replicate 128 0;
  output_words = replicate 128 (pos 0);
  marker_words = replicate 4096 (pos 0);
  constant_words = replicate 640 (pos 0);
  marker_doubles = replicate 512 (pos 0);
  constant_doubles = replicate 128 (pos 0);
  history = replicate 1024 (pos 0);
}

-- a step of a chain set
abbrev pub step_set : Store → ℕ → ℕ → Store
step_set m group step = with_chains m (slice_set m.chains group (moved_to (slice_index_or m.chains group no_chain) step))

-- v stored in the operand of a kind at a place: a step is set by a value that is not 0, and left by 0
abbrev pub stored_at : Store → Kind → ℕ → ℤ → Store
stored_at m Input p v = m
stored_at m Output p v = with_outputs m (slice_set m.outputs p (truth v))
stored_at m Marker p v = with_markers m (slice_set m.markers p (truth v))
stored_at m Step p v = cond (truth v) (step_set m (p / 16) (p % 16)) m
stored_at m Constant p v = m
stored_at m InputWord p v = m
stored_at m OutputWord p v = with_output_words m (slice_set m.output_words p (limited_to Word v))
stored_at m MarkerWord p v = with_marker_words m (slice_set m.marker_words p (limited_to Word v))
stored_at m ConstantWord p v = m
stored_at m MarkerDouble p v = with_marker_doubles m (slice_set m.marker_doubles p (limited_to Double v))
stored_at m ConstantDouble p v = m

-- v loaded as the constant of a kind at a place
abbrev pub constant_at : Store → Kind → ℕ → ℤ → Store
constant_at m Input p v = m
constant_at m Output p v = m
constant_at m Marker p v = m
constant_at m Step p v = m
constant_at m Constant p v = m
constant_at m InputWord p v = m
constant_at m OutputWord p v = m
constant_at m MarkerWord p v = m
constant_at m ConstantWord p v = with_constant_words m (slice_set m.constant_words p (limited_to Word v))
constant_at m MarkerDouble p v = m
constant_at m ConstantDouble p v = with_constant_doubles m (slice_set m.constant_doubles p (limited_to Double v))

-- the sixteen inputs of a group from a word, channel 0 from the lowest bit
abbrev pub group_loaded : Store → ℕ → ℕ → Store
group_loaded m group w = with_inputs m (spread m.inputs (16 * group) w 16)

-- an input word as it came
abbrev pub word_loaded : Store → ℕ → ℕ → Store
word_loaded m p w = with_input_words m (slice_set m.input_words p w)

abbrev pub cell_put : Store → ℕ → ℤ → Store
cell_put m c v = with_history m (slice_set m.history c v)

abbrev pub cells_cleared : Store → Store
cells_cleared m = with_history m (replicate 1024 (pos 0))

-- the groups from first to last with x at each of their places
abbrev groups : {X : Type 0} → List X → ℕ → ℕ → X → List X
groups xs first last x = filled xs (16 * first) (16 * (last + 1 - first)) x

-- the groups of a kind from first to last cleared: all 0, a chain at step 0
abbrev pub cleared_at : Store → Kind → ℕ → ℕ → Store
cleared_at m Input first last = with_inputs m (groups m.inputs first last false)
cleared_at m Output first last = with_outputs m (groups m.outputs first last false)
cleared_at m Marker first last = with_markers m (groups m.markers first last false)
cleared_at m Step first last = with_chains m (filled m.chains first (last + 1 - first) at_rest)
cleared_at m Constant first last = m
cleared_at m InputWord first last = with_input_words m (groups m.input_words first last 0)
cleared_at m OutputWord first last = with_output_words m (groups m.output_words first last (pos 0))
cleared_at m MarkerWord first last = with_marker_words m (groups m.marker_words first last (pos 0))
cleared_at m ConstantWord first last = with_constant_words m (groups m.constant_words first last (pos 0))
cleared_at m MarkerDouble first last = with_marker_doubles m (groups m.marker_doubles first last (pos 0))
cleared_at m ConstantDouble first last = with_constant_doubles m (groups m.constant_doubles first last (pos 0))
