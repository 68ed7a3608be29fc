-- What loading and clearing do to the operands and cells.
use Rattle.std.proofs.Common.{◌≡◌, ℕ, zero, suc, ◌+◌, ◌-◌, ◌*◌, ◌/◌, ◌%◌, ◌<◌, ◌≤◌, false, eqb, List, length, get_or, set, replicate, ℤ, pos, sym, refl, ap, ◌∙◌, subst, arith, get_or-set_other, get_or-set_same}
use Rattle.number.specs.Limits.{corrected}
use Rattle.number.specs.declared.limit.Width.TheVariants.{Word, Double}
use Rattle.operand.specs.declared.kind.Kind.{Kind}
use Rattle.operand.specs.declared.kind.Kind.TheVariants.{Input, Output, Marker, Step, Constant, InputWord, OutputWord, MarkerWord, ConstantWord, MarkerDouble, ConstantDouble}
use Rattle.operand.specs.Codes.{place_of}
use Rattle.store.specs.declared.chain.Chain.{Chain}
use Rattle.store.specs.declared.store.Store.{Store}
use Rattle.store.specs.Chains.{at_rest, no_chain}
use Rattle.store.specs.Words.{bit, bit_of, signed}
use Rattle.store.specs.Places.{filled, spread}
use Rattle.store.specs.Values.{value_at}
use Rattle.store.specs.Changes.{group_loaded, word_loaded, cleared_at}
use Rattle.memory.specs.Laws.{LoadsInputs, LoadsInputWord, Clears, ClearsCells, cleared_value}
use Rattle.memory.specs.Readings.{value_of, cell_of}
use Rattle.memory.specs.Writings.{inputs_loaded, input_word_loaded, cleared, cells_cleared}
use Rattle.memory.proofs.Held.{Held, size_at}
use Rattle.memory.proofs.Frames.{only_inputs, only_outputs, only_markers, only_chains, only_input_words, only_output_words, only_marker_words, only_constant_words, only_marker_doubles, only_constant_doubles, only_history, filled_other, filled_same, spread_other, spread_same}
use Rattle.memory.proofs.Stored.{places, has_place}

module _ (m : Store) (h : Held m) where
  input_back : (group w p : ℕ) → group < 64 → p / 16 ≡ group → value_at (group_loaded m group w) Input p ≡ bit (bit_of w (p % 16))
  input_back group w p l e =
      let at : 16 * group + p % 16 ≡ p = omega arith in
      ap (λ (i : ℕ). bit (get_or (spread m.inputs (16 * group) w 16) i false)) (sym at)
      ∙ ap bit (spread_same m.inputs (16 * group) w false 16 (p % 16) (omega arith) (omega (arith, size_at m h 0)))

  pub inputs_law : (group w : ℕ) → LoadsInputs m (inputs_loaded m group w) group w
  unfolding inputs_loaded value_of cell_of
  inputs_law group w = record {
    back = λ q l t. ap (λ (k : Kind). value_at (group_loaded m group w) k (place_of q)) t.0 ∙ input_back group w (place_of q) l t.1;
    operands = λ q n. only_inputs m q.kind (place_of q) (spread m.inputs (16 * group) w 16) (λ e. spread_other m.inputs (16 * group) w false 16 (place_of q) (λ a b. n (e, omega arith)));
    cells = λ c. refl;
  }

  word_back : (p w q : ℕ) → p < 128 → q ≡ p → value_at (word_loaded m p w) InputWord q ≡ corrected Word (signed w)
  word_back p w q l e =
      ap (λ (i : ℕ). corrected Word (signed (get_or (set m.input_words p w) i 0))) e
      ∙ ap (λ (x : ℕ). corrected Word (signed x)) (get_or-set_same m.input_words p w 0 (omega (arith, size_at m h 4)))

  pub input_word_law : (p w : ℕ) → LoadsInputWord m (input_word_loaded m p w) p w
  unfolding input_word_loaded value_of cell_of
  input_word_law p w = record {
    back = λ q l t. ap (λ (k : Kind). value_at (word_loaded m p w) k (place_of q)) t.0 ∙ word_back p w (place_of q) l t.1;
    operands = λ q n. only_input_words m q.kind (place_of q) (set m.input_words p w) (λ e. get_or-set_other m.input_words p (place_of q) w 0 (λ x. n (e, x)));
    cells = λ c. refl;
  }

  -- an element of a cleared group
  group_back : {X : Type 0} (xs : List X) (x d : X) (a b p : ℕ) → p < length xs → a ≤ p / 16 → p / 16 ≤ b → get_or (filled xs (16 * a) (16 * (b + 1 - a)) x) p d ≡ x
  group_back xs x d a b p l low high = filled_same xs x d (16 * a) (16 * (b + 1 - a)) p (omega arith) (omega arith) l

  cleared_back : (k : Kind) (a b p : ℕ) → p < places k → a ≤ p / 16 → p / 16 ≤ b → value_at (cleared_at m k a b) k p ≡ cleared_value k p
  cleared_back Input a b p l low high = ap bit (group_back m.inputs false false a b p (omega (arith, size_at m h 0)) low high)
  cleared_back Output a b p l low high = ap bit (group_back m.outputs false false a b p (omega (arith, size_at m h 1)) low high)
  cleared_back Marker a b p l low high = ap bit (group_back m.markers false false a b p (omega (arith, size_at m h 2)) low high)
  cleared_back Step a b p l low high =
      ap (λ (c : Chain). bit (eqb c.set (p % 16))) (filled_same m.chains at_rest no_chain a (b + 1 - a) (p / 16) low (omega arith) (omega (arith, size_at m h 3)))
  cleared_back Constant a b p l low high = refl
  cleared_back InputWord a b p l low high = ap (λ (w : ℕ). corrected Word (signed w)) (group_back m.input_words 0 0 a b p (omega (arith, size_at m h 4)) low high)
  cleared_back OutputWord a b p l low high = ap (corrected Word) (group_back m.output_words (pos 0) (pos 0) a b p (omega (arith, size_at m h 5)) low high)
  cleared_back MarkerWord a b p l low high = ap (corrected Word) (group_back m.marker_words (pos 0) (pos 0) a b p (omega (arith, size_at m h 6)) low high)
  cleared_back ConstantWord a b p l low high = ap (corrected Word) (group_back m.constant_words (pos 0) (pos 0) a b p (omega (arith, size_at m h 7)) low high)
  cleared_back MarkerDouble a b p l low high = ap (corrected Double) (group_back m.marker_doubles (pos 0) (pos 0) a b p (omega (arith, size_at m h 8)) low high)
  cleared_back ConstantDouble a b p l low high = ap (corrected Double) (group_back m.constant_doubles (pos 0) (pos 0) a b p (omega (arith, size_at m h 9)) low high)

-- an element of another group
group_kept : {X : Type 0} (xs : List X) (x d : X) (a b q : ℕ) → (a ≤ q / 16 → q / 16 ≤ b → ⊥) → get_or (filled xs (16 * a) (16 * (b + 1 - a)) x) q d ≡ get_or xs q d
group_kept xs x d a b q h = filled_other xs x d (16 * a) (16 * (b + 1 - a)) q (λ low high. h (omega arith) (omega arith))

module _ (m : Store) (j : Kind) (q : ℕ) (a b : ℕ) where
  cleared_frames : (k : Kind) → (j ≡ k → a ≤ q / 16 → q / 16 ≤ b → ⊥) → value_at (cleared_at m k a b) j q ≡ value_at m j q
  cleared_frames Input h = only_inputs m j q _ (λ e. group_kept m.inputs false false a b q (h e))
  cleared_frames Output h = only_outputs m j q _ (λ e. group_kept m.outputs false false a b q (h e))
  cleared_frames Marker h = only_markers m j q _ (λ e. group_kept m.markers false false a b q (h e))
  cleared_frames Step h =
      only_chains m j q _ (λ e. filled_other m.chains at_rest no_chain a (b + 1 - a) (q / 16) (λ low high. h e low (omega arith)))
  cleared_frames Constant h = refl
  cleared_frames InputWord h = only_input_words m j q _ (λ e. group_kept m.input_words 0 0 a b q (h e))
  cleared_frames OutputWord h = only_output_words m j q _ (λ e. group_kept m.output_words (pos 0) (pos 0) a b q (h e))
  cleared_frames MarkerWord h = only_marker_words m j q _ (λ e. group_kept m.marker_words (pos 0) (pos 0) a b q (h e))
  cleared_frames ConstantWord h = only_constant_words m j q _ (λ e. group_kept m.constant_words (pos 0) (pos 0) a b q (h e))
  cleared_frames MarkerDouble h = only_marker_doubles m j q _ (λ e. group_kept m.marker_doubles (pos 0) (pos 0) a b q (h e))
  cleared_frames ConstantDouble h = only_constant_doubles m j q _ (λ e. group_kept m.constant_doubles (pos 0) (pos 0) a b q (h e))

cleared_history : (m : Store) (k : Kind) (a b : ℕ) → (cleared_at m k a b).history ≡ m.history
cleared_history m k a b = grind arith

same_everywhere : {X : Type 0} (x : X) (n i : ℕ) → get_or (replicate n x) i x ≡ x
same_everywhere x zero i = refl
same_everywhere x (suc n) zero = refl
same_everywhere x (suc n) (suc i) = same_everywhere x n i

module _ (m : Store) (h : Held m) where
  pub cleared_law : (k : Kind) (a b : ℕ) → Clears m (cleared m k a b) k a b
  unfolding cleared value_of cell_of
  cleared_law k a b = record {
    back = λ e q i t.
        ap (λ (j : Kind). value_at (cleared_at m k a b) j (place_of q)) t.0
        ∙ cleared_back m h k a b (place_of q) (subst (λ (j : Kind). place_of q < places j) t.0 (has_place e q i)) t.1 t.2;
    operands = λ q n. cleared_frames m q.kind (place_of q) a b k (λ e low high. n (e, low, high));
    cells = λ c. ap (λ (hs : List ℤ). get_or hs c (pos 0)) (cleared_history m k a b);
  }

  pub cells_law : ClearsCells m (cells_cleared m)
  unfolding cells_cleared value_of cell_of
  cells_law = record {
    back = λ c. same_everywhere (pos 0) 1024 c;
    operands = λ q n. only_history m q.kind (place_of q) (replicate 1024 (pos 0));
  }
