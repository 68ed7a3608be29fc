-- What a store does to the operands and cells.
use Rattle.std.proofs.Common.{◌≡◌, ℕ, ◌+◌, ◌*◌, ◌/◌, ◌%◌, ◌<◌, Bool, true, false, cond, eqb, leb, List, length, get_or, set, ℤ, pos, sym, refl, ap, ◌∙◌, arith, get_or-set_other, get_or-set_same}
use Rattle.std.proofs.lemmas.Bool.{and_parts, cond-false}
use Rattle.std.proofs.lemmas.Bool.Decides.{nat_tests}
use Rattle.number.specs.Limits.{limited_to, corrected}
use Rattle.number.specs.declared.limit.Width.{Width}
use Rattle.number.specs.declared.limit.Width.TheVariants.{Word, Double}
use Rattle.number.proofs.Lawful.{limited_lawful, limited_same}
use Rattle.operand.specs.declared.edition.Edition.{Edition}
use Rattle.operand.specs.declared.edition.Edition.TheVariants.{Series90}
use Rattle.operand.specs.declared.kind.Kind.{Kind}
use Rattle.operand.specs.declared.kind.Kind.TheVariants.{Input, Output, Marker, Step, Constant, InputWord, OutputWord, MarkerWord, ConstantWord, MarkerDouble, ConstantDouble}
use Rattle.operand.specs.declared.operand.Operand.{Operand}
use Rattle.operand.specs.Codes.{place_of, in_range}
use Rattle.operand.specs.Ranges.{any_holds, ranges_of}
use Rattle.store.specs.declared.chain.Chain.{Chain}
use Rattle.store.specs.declared.store.Store.{Store}
use Rattle.store.specs.Chains.{moved_to, no_chain}
use Rattle.store.specs.Words.{bit, truth}
use Rattle.store.specs.Values.{value_at}
use Rattle.store.specs.Changes.{step_set, stored_at, constant_at}
use Rattle.memory.specs.Laws.{SameTarget, ReadsBack, Stores, ConstantBack, LoadsConstant, StoresCell, channel_of}
use Rattle.memory.specs.Readings.{value_of, cell_of}
use Rattle.memory.specs.Writings.{stored, constant_loaded, cell_stored}
use Rattle.memory.proofs.Held.{Held, size_at}
use Rattle.memory.proofs.Frames.{only_outputs, only_markers, only_chains, only_output_words, only_marker_words, only_constant_words, only_marker_doubles, only_constant_doubles, only_history}

-- how many places memory has for a kind
abbrev pub places : Kind → ℕ
places Input = 1024
places Output = 1024
places Marker = 4096
places Step = 2048
places Constant = 2
places InputWord = 128
places OutputWord = 128
places MarkerWord = 4096
places ConstantWord = 640
places MarkerDouble = 512
places ConstantDouble = 128

-- memory has a place for every operand of an edition
pub in_places : (e : Edition) (k : Kind) (p : ℕ) → any_holds (ranges_of e) k p ≡ true → p < places k
in_places Series90 Input p h = grind (arith, nat_tests)
in_places Series90 Output p h = grind (arith, nat_tests)
in_places Series90 Marker p h = grind (arith, nat_tests)
in_places Series90 Step p h = grind (arith, nat_tests)
in_places Series90 Constant p h = grind (arith, nat_tests)
in_places Series90 InputWord p h = grind (arith, nat_tests)
in_places Series90 OutputWord p h = grind (arith, nat_tests)
in_places Series90 MarkerWord p h = grind (arith, nat_tests)
in_places Series90 ConstantWord p h = grind (arith, nat_tests)
in_places Series90 MarkerDouble p h = grind (arith, nat_tests)
in_places Series90 ConstantDouble p h = grind (arith, nat_tests)

pub has_place : (e : Edition) (o : Operand) → in_range e o ≡ true → place_of o < places o.kind
has_place e o h = in_places e o.kind (place_of o) (and_parts (leb o.channel 15) (any_holds (ranges_of e) o.kind (place_of o)) h).1

module _ (m : Store) (j : Kind) (q : ℕ) where
  step_frames : (p : ℕ) (b : Bool) → (j ≡ Step → p / 16 ≡ q / 16 → ⊥) → value_at (cond b (step_set m (p / 16) (p % 16)) m) j q ≡ value_at m j q
  step_frames p true h = only_chains m j q _ (λ e. get_or-set_other m.chains (p / 16) (q / 16) _ no_chain (λ x. h e (sym x)))
  step_frames p false h = refl

  pub stored_frames : (k : Kind) (p : ℕ) (v : ℤ) → (j ≡ k → SameTarget k p q → ⊥) → value_at (stored_at m k p v) j q ≡ value_at m j q
  stored_frames Input p v h = refl
  stored_frames Output p v h = only_outputs m j q _ (λ e. get_or-set_other m.outputs p q (truth v) false (λ x. h e (sym x)))
  stored_frames Marker p v h = only_markers m j q _ (λ e. get_or-set_other m.markers p q (truth v) false (λ x. h e (sym x)))
  stored_frames Step p v h = step_frames p (truth v) h
  stored_frames Constant p v h = refl
  stored_frames InputWord p v h = refl
  stored_frames OutputWord p v h = only_output_words m j q _ (λ e. get_or-set_other m.output_words p q (limited_to Word v) (pos 0) (λ x. h e (sym x)))
  stored_frames MarkerWord p v h = only_marker_words m j q _ (λ e. get_or-set_other m.marker_words p q (limited_to Word v) (pos 0) (λ x. h e (sym x)))
  stored_frames ConstantWord p v h = refl
  stored_frames MarkerDouble p v h = only_marker_doubles m j q _ (λ e. get_or-set_other m.marker_doubles p q (limited_to Double v) (pos 0) (λ x. h e (sym x)))
  stored_frames ConstantDouble p v h = refl

  pub constant_frames : (k : Kind) (p : ℕ) (v : ℤ) → (j ≡ k → SameTarget k p q → ⊥) → value_at (constant_at m k p v) j q ≡ value_at m j q
  constant_frames Input p v h = refl
  constant_frames Output p v h = refl
  constant_frames Marker p v h = refl
  constant_frames Step p v h = refl
  constant_frames Constant p v h = refl
  constant_frames InputWord p v h = refl
  constant_frames OutputWord p v h = refl
  constant_frames MarkerWord p v h = refl
  constant_frames ConstantWord p v h = only_constant_words m j q _ (λ e. get_or-set_other m.constant_words p q (limited_to Word v) (pos 0) (λ x. h e (sym x)))
  constant_frames MarkerDouble p v h = refl
  constant_frames ConstantDouble p v h = only_constant_doubles m j q _ (λ e. get_or-set_other m.constant_doubles p q (limited_to Double v) (pos 0) (λ x. h e (sym x)))

step_history : (m : Store) (p : ℕ) (b : Bool) → (cond b (step_set m (p / 16) (p % 16)) m).history ≡ m.history
step_history m p true = refl
step_history m p false = refl

stored_history : (m : Store) (k : Kind) (p : ℕ) (v : ℤ) → (stored_at m k p v).history ≡ m.history
stored_history m Input p v = refl
stored_history m Output p v = refl
stored_history m Marker p v = refl
stored_history m Step p v = step_history m p (truth v)
stored_history m Constant p v = refl
stored_history m InputWord p v = refl
stored_history m OutputWord p v = refl
stored_history m MarkerWord p v = refl
stored_history m ConstantWord p v = refl
stored_history m MarkerDouble p v = refl
stored_history m ConstantDouble p v = refl

constant_history : (m : Store) (k : Kind) (p : ℕ) (v : ℤ) → (constant_at m k p v).history ≡ m.history
constant_history m k p v = grind arith

-- what was limited and stored reads the same
limited_back : (w : Width) (zs : List ℤ) (p : ℕ) (v : ℤ) → p < length zs → corrected w (get_or (set zs p (limited_to w v)) p (pos 0)) ≡ limited_to w v
limited_back w zs p v l =
    ap (corrected w) (get_or-set_same zs p (limited_to w v) (pos 0) l) ∙ limited_same w (limited_to w v) (limited_lawful w v)

module _ (m : Store) (h : Held m) where
  -- a step set reads 1, each other of its chain 0
  step_back : (p : ℕ) → p < 2048 → (q : ℕ) → p / 16 ≡ q / 16 → value_at (step_set m (p / 16) (p % 16)) Step q ≡ bit (eqb (p % 16) (q % 16))
  step_back p l q e =
      let c : Chain = moved_to (get_or m.chains (p / 16) no_chain) (p % 16) in
      let n : p / 16 < length m.chains = omega (arith, size_at m h 3) in
      ap (λ (i : ℕ). bit (eqb (get_or (set m.chains (p / 16) c) i no_chain).set (q % 16))) (sym e)
      ∙ ap (λ (x : Chain). bit (eqb x.set (q % 16))) (get_or-set_same m.chains (p / 16) c no_chain n)

  chain_back : (o : Operand) → place_of o < 2048 → (b : Bool) → b ≡ true → (q : Operand) → (q.kind ≡ Step) × (place_of o / 16 ≡ place_of q / 16) → value_of (cond b (step_set m (place_of o / 16) (place_of o % 16)) m) q ≡ bit (eqb (channel_of o) (channel_of q))
  unfolding value_of
  chain_back o l true t q (k, e) = ap (λ (j : Kind). value_at (step_set m (place_of o / 16) (place_of o % 16)) j (place_of q)) k ∙ step_back (place_of o) l (place_of q) e
  chain_back o l false t q x = absurd (let z : ◌≡◌ {A = ℕ} 0 1 = cc in omega arith)

  stored_back : (k : Kind) (g c : ℕ) (v : ℤ) → 16 * g + c < places k → ReadsBack k m (stored_at m k (16 * g + c) v) (record { kind = k; group = g; channel = c }) v
  unfolding value_of
  stored_back Input g c v l = refl
  stored_back Output g c v l = ap bit (get_or-set_same m.outputs (16 * g + c) (truth v) false (omega (arith, size_at m h 1)))
  stored_back Marker g c v l = ap bit (get_or-set_same m.markers (16 * g + c) (truth v) false (omega (arith, size_at m h 2)))
  stored_back Step g c v l = (
    λ t q x. chain_back (record { kind = Step; group = g; channel = c }) l (truth v) t q x,
    λ t. cond-false (truth v) (step_set m ((16 * g + c) / 16) ((16 * g + c) % 16)) m t,
  )
  stored_back Constant g c v l = refl
  stored_back InputWord g c v l = refl
  stored_back OutputWord g c v l = limited_back Word m.output_words (16 * g + c) v (omega (arith, size_at m h 5))
  stored_back MarkerWord g c v l = limited_back Word m.marker_words (16 * g + c) v (omega (arith, size_at m h 6))
  stored_back ConstantWord g c v l = refl
  stored_back MarkerDouble g c v l = limited_back Double m.marker_doubles (16 * g + c) v (omega (arith, size_at m h 8))
  stored_back ConstantDouble g c v l = refl

  constant_back : (k : Kind) (g c : ℕ) (v : ℤ) → 16 * g + c < places k → ConstantBack k m (constant_at m k (16 * g + c) v) (record { kind = k; group = g; channel = c }) v
  unfolding value_of
  constant_back Input g c v l = refl
  constant_back Output g c v l = refl
  constant_back Marker g c v l = refl
  constant_back Step g c v l = refl
  constant_back Constant g c v l = refl
  constant_back InputWord g c v l = refl
  constant_back OutputWord g c v l = refl
  constant_back MarkerWord g c v l = refl
  constant_back ConstantWord g c v l = limited_back Word m.constant_words (16 * g + c) v (omega (arith, size_at m h 7))
  constant_back MarkerDouble g c v l = refl
  constant_back ConstantDouble g c v l = limited_back Double m.constant_doubles (16 * g + c) v (omega (arith, size_at m h 9))

  pub stores_law : (o : Operand) (v : ℤ) → Stores m (stored m o v) o v
  unfolding stored value_of cell_of
  stores_law o v = record {
    back = λ e i. stored_back o.kind o.group o.channel v (has_place e o i);
    operands = λ q n. stored_frames m q.kind (place_of q) o.kind (place_of o) v (λ x y. n (x, y));
    cells = λ c. ap (λ (hs : List ℤ). get_or hs c (pos 0)) (stored_history m o.kind (place_of o) v);
  }

  pub constant_law : (o : Operand) (v : ℤ) → LoadsConstant m (constant_loaded m o v) o v
  unfolding constant_loaded value_of cell_of
  constant_law o v = record {
    back = λ e i. constant_back o.kind o.group o.channel v (has_place e o i);
    operands = λ q n. constant_frames m q.kind (place_of q) o.kind (place_of o) v (λ x y. n (x, y));
    cells = λ c. ap (λ (hs : List ℤ). get_or hs c (pos 0)) (constant_history m o.kind (place_of o) v);
  }

  pub cell_law : (c : ℕ) (v : ℤ) → StoresCell m (cell_stored m c v) c v
  unfolding cell_stored value_of cell_of
  cell_law c v = record {
    back = λ l. get_or-set_same m.history c v (pos 0) (omega (arith, size_at m h 10));
    cells = λ d n. get_or-set_other m.history c d v (pos 0) n;
    operands = λ q n. only_history m q.kind (place_of q) (set m.history c v);
  }
