-- Two memories that agree on an operand agree on it after the same store.
use Rattle.std.proofs.Common.{◌≡◌, ℕ, zero, suc, ◌/◌, ◌%◌, Bool, true, false, cond, eqb, List, [], ◌∷◌, length, get_or, set, ℤ, pos, sym, refl, ◌∙◌, arith}
use Rattle.number.specs.Limits.{corrected, limited_to}
use Rattle.number.specs.declared.limit.Width.TheVariants.{Word, Double}
use Rattle.operand.specs.declared.kind.Kind.{Kind}
use Rattle.operand.specs.declared.kind.Kind.TheVariants.{Input, Output, Marker, Step, Constant, InputWord, OutputWord, MarkerWord, ConstantWord, MarkerDouble, ConstantDouble}
use Rattle.operand.specs.declared.operand.Operand.{Operand}
use Rattle.operand.specs.Codes.{place_of}
use Rattle.store.specs.declared.chain.Chain.{Chain}
use Rattle.store.specs.declared.store.Store.{Store}
use Rattle.store.specs.Chains.{moved_to, no_chain}
use Rattle.store.specs.Words.{bit, truth}
use Rattle.store.specs.Values.{value_at}
use Rattle.store.specs.Changes.{step_set, stored_at, with_outputs, with_markers, with_output_words, with_marker_words, with_marker_doubles}
use Rattle.memory.specs.Readings.{value_of}
use Rattle.memory.specs.Writings.{stored}
use Rattle.memory.proofs.Held.{Held, size_at}

-- the same value put into two lists of one length
set_both : {X Y : Type 0} (f : X → Y) (xs ys : List X) (p q : ℕ) (x z d : X) → f x ≡ f z → length xs ≡ length ys → f (get_or xs q d) ≡ f (get_or ys q d) → f (get_or (set xs p x) q d) ≡ f (get_or (set ys p z) q d)
set_both f [] [] p q x z d s e h = refl
set_both f [] (y ∷ ys) p q x z d s e h = absurd (omega arith)
set_both f (y ∷ ys) [] p q x z d s e h = absurd (omega arith)
set_both f (y ∷ ys) (w ∷ ws) zero zero x z d s e h = s
set_both f (y ∷ ys) (w ∷ ws) zero (suc q) x z d s e h = h
set_both f (y ∷ ys) (w ∷ ws) (suc p) zero x z d s e h = h
set_both f (y ∷ ys) (w ∷ ws) (suc p) (suc q) x z d s e h = set_both f ys ws p q x z d s (omega arith) h

module _ (m n : Store) (hm : Held m) (hn : Held n) where
  alike_outputs : (p : ℕ) (x : Bool) (j : Kind) (q : ℕ) → value_at m j q ≡ value_at n j q → value_at (with_outputs m (set m.outputs p x)) j q ≡ value_at (with_outputs n (set n.outputs p x)) j q
  alike_outputs p x Input q h = h
  alike_outputs p x Output q h = set_both bit m.outputs n.outputs p q x x false refl (size_at m hm 1 ∙ sym (size_at n hn 1)) h
  alike_outputs p x Marker q h = h
  alike_outputs p x Step q h = h
  alike_outputs p x Constant q h = h
  alike_outputs p x InputWord q h = h
  alike_outputs p x OutputWord q h = h
  alike_outputs p x MarkerWord q h = h
  alike_outputs p x ConstantWord q h = h
  alike_outputs p x MarkerDouble q h = h
  alike_outputs p x ConstantDouble q h = h

  alike_markers : (p : ℕ) (x : Bool) (j : Kind) (q : ℕ) → value_at m j q ≡ value_at n j q → value_at (with_markers m (set m.markers p x)) j q ≡ value_at (with_markers n (set n.markers p x)) j q
  alike_markers p x Input q h = h
  alike_markers p x Output q h = h
  alike_markers p x Marker q h = set_both bit m.markers n.markers p q x x false refl (size_at m hm 2 ∙ sym (size_at n hn 2)) h
  alike_markers p x Step q h = h
  alike_markers p x Constant q h = h
  alike_markers p x InputWord q h = h
  alike_markers p x OutputWord q h = h
  alike_markers p x MarkerWord q h = h
  alike_markers p x ConstantWord q h = h
  alike_markers p x MarkerDouble q h = h
  alike_markers p x ConstantDouble q h = h

  alike_output_words : (p : ℕ) (x : ℤ) (j : Kind) (q : ℕ) → value_at m j q ≡ value_at n j q → value_at (with_output_words m (set m.output_words p x)) j q ≡ value_at (with_output_words n (set n.output_words p x)) j q
  alike_output_words p x Input q h = h
  alike_output_words p x Output q h = h
  alike_output_words p x Marker q h = h
  alike_output_words p x Step q h = h
  alike_output_words p x Constant q h = h
  alike_output_words p x InputWord q h = h
  alike_output_words p x OutputWord q h = set_both (corrected Word) m.output_words n.output_words p q x x (pos 0) refl (size_at m hm 5 ∙ sym (size_at n hn 5)) h
  alike_output_words p x MarkerWord q h = h
  alike_output_words p x ConstantWord q h = h
  alike_output_words p x MarkerDouble q h = h
  alike_output_words p x ConstantDouble q h = h

  alike_marker_words : (p : ℕ) (x : ℤ) (j : Kind) (q : ℕ) → value_at m j q ≡ value_at n j q → value_at (with_marker_words m (set m.marker_words p x)) j q ≡ value_at (with_marker_words n (set n.marker_words p x)) j q
  alike_marker_words p x Input q h = h
  alike_marker_words p x Output q h = h
  alike_marker_words p x Marker q h = h
  alike_marker_words p x Step q h = h
  alike_marker_words p x Constant q h = h
  alike_marker_words p x InputWord q h = h
  alike_marker_words p x OutputWord q h = h
  alike_marker_words p x MarkerWord q h = set_both (corrected Word) m.marker_words n.marker_words p q x x (pos 0) refl (size_at m hm 6 ∙ sym (size_at n hn 6)) h
  alike_marker_words p x ConstantWord q h = h
  alike_marker_words p x MarkerDouble q h = h
  alike_marker_words p x ConstantDouble q h = h

  alike_marker_doubles : (p : ℕ) (x : ℤ) (j : Kind) (q : ℕ) → value_at m j q ≡ value_at n j q → value_at (with_marker_doubles m (set m.marker_doubles p x)) j q ≡ value_at (with_marker_doubles n (set n.marker_doubles p x)) j q
  alike_marker_doubles p x Input q h = h
  alike_marker_doubles p x Output q h = h
  alike_marker_doubles p x Marker q h = h
  alike_marker_doubles p x Step q h = h
  alike_marker_doubles p x Constant q h = h
  alike_marker_doubles p x InputWord q h = h
  alike_marker_doubles p x OutputWord q h = h
  alike_marker_doubles p x MarkerWord q h = h
  alike_marker_doubles p x ConstantWord q h = h
  alike_marker_doubles p x MarkerDouble q h = set_both (corrected Double) m.marker_doubles n.marker_doubles p q x x (pos 0) refl (size_at m hm 8 ∙ sym (size_at n hn 8)) h
  alike_marker_doubles p x ConstantDouble q h = h

  alike_chains : (p : ℕ) (j : Kind) (q : ℕ) → value_at m j q ≡ value_at n j q → value_at (step_set m (p / 16) (p % 16)) j q ≡ value_at (step_set n (p / 16) (p % 16)) j q
  alike_chains p Input q h = h
  alike_chains p Output q h = h
  alike_chains p Marker q h = h
  alike_chains p Step q h =
      set_both (λ (c : Chain). bit (eqb c.set (q % 16))) m.chains n.chains (p / 16) (q / 16) (moved_to (get_or m.chains (p / 16) no_chain) (p % 16)) (moved_to (get_or n.chains (p / 16) no_chain) (p % 16)) no_chain refl (size_at m hm 3 ∙ sym (size_at n hn 3)) h
  alike_chains p Constant q h = h
  alike_chains p InputWord q h = h
  alike_chains p OutputWord q h = h
  alike_chains p MarkerWord q h = h
  alike_chains p ConstantWord q h = h
  alike_chains p MarkerDouble q h = h
  alike_chains p ConstantDouble q h = h

  alike_steps : (p : ℕ) (b : Bool) (j : Kind) (q : ℕ) → value_at m j q ≡ value_at n j q → value_at (cond b (step_set m (p / 16) (p % 16)) m) j q ≡ value_at (cond b (step_set n (p / 16) (p % 16)) n) j q
  alike_steps p true j q h = alike_chains p j q h
  alike_steps p false j q h = h

  stored_alike : (k : Kind) (p : ℕ) (v : ℤ) (j : Kind) (q : ℕ) → value_at m j q ≡ value_at n j q → value_at (stored_at m k p v) j q ≡ value_at (stored_at n k p v) j q
  stored_alike Input p v j q h = h
  stored_alike Output p v j q h = alike_outputs p (truth v) j q h
  stored_alike Marker p v j q h = alike_markers p (truth v) j q h
  stored_alike Step p v j q h = alike_steps p (truth v) j q h
  stored_alike Constant p v j q h = h
  stored_alike InputWord p v j q h = h
  stored_alike OutputWord p v j q h = alike_output_words p (limited_to Word v) j q h
  stored_alike MarkerWord p v j q h = alike_marker_words p (limited_to Word v) j q h
  stored_alike ConstantWord p v j q h = h
  stored_alike MarkerDouble p v j q h = alike_marker_doubles p (limited_to Double v) j q h
  stored_alike ConstantDouble p v j q h = h

  pub alike_law : (o q : Operand) (v : ℤ) → value_of m q ≡ value_of n q → value_of (stored m o v) q ≡ value_of (stored n o v) q
  unfolding value_of stored
  alike_law o q v h = stored_alike o.kind (place_of o) v q.kind (place_of q) h
