-- Where one array is exchanged, only the operands of its kind can read anew.
use Rattle.std.proofs.Common.{◌≡◌, ℕ, zero, suc, ◌+◌, ◌/◌, ◌<◌, ◌≤◌, Bool, false, List, length, get_or, set, ℤ, pos, sym, refl, ap, ◌∙◌, ⊎_elim, arith, get_or-set_other, get_or-set_same}
use Rattle.std.proofs.lemmas.Bool.{cases_eq}
use Rattle.operand.specs.declared.kind.Kind.{Kind}
use Rattle.operand.specs.declared.kind.Kind.TheVariants.{Input, Output, Marker, Step, InputWord, OutputWord, MarkerWord, ConstantWord, MarkerDouble, ConstantDouble}
use Rattle.store.specs.declared.chain.Chain.{Chain}
use Rattle.store.specs.declared.store.Store.{Store}
use Rattle.store.specs.Chains.{no_chain}
use Rattle.store.specs.Places.{filled, spread}
use Rattle.store.specs.Words.{bit_of}
use Rattle.store.specs.Values.{value_at}
use Rattle.store.specs.Changes.{with_inputs, with_outputs, with_markers, with_chains, with_input_words, with_output_words, with_marker_words, with_constant_words, with_marker_doubles, with_constant_doubles, with_history}
use Rattle.memory.proofs.Held.{length_filled, length_spread}

module _ (m : Store) (k : Kind) (p : ℕ) where
  pub only_inputs : (xs : List Bool) → (k ≡ Input → get_or xs p false ≡ get_or m.inputs p false) → value_at (with_inputs m xs) k p ≡ value_at m k p
  only_inputs xs h = grind arith

  pub only_outputs : (xs : List Bool) → (k ≡ Output → get_or xs p false ≡ get_or m.outputs p false) → value_at (with_outputs m xs) k p ≡ value_at m k p
  only_outputs xs h = grind arith

  pub only_markers : (xs : List Bool) → (k ≡ Marker → get_or xs p false ≡ get_or m.markers p false) → value_at (with_markers m xs) k p ≡ value_at m k p
  only_markers xs h = grind arith

  pub only_chains : (xs : List Chain) → (k ≡ Step → get_or xs (p / 16) no_chain ≡ get_or m.chains (p / 16) no_chain) → value_at (with_chains m xs) k p ≡ value_at m k p
  only_chains xs h = grind arith

  pub only_input_words : (xs : List ℕ) → (k ≡ InputWord → get_or xs p 0 ≡ get_or m.input_words p 0) → value_at (with_input_words m xs) k p ≡ value_at m k p
  only_input_words xs h = grind arith

  pub only_output_words : (xs : List ℤ) → (k ≡ OutputWord → get_or xs p (pos 0) ≡ get_or m.output_words p (pos 0)) → value_at (with_output_words m xs) k p ≡ value_at m k p
  only_output_words xs h = grind arith

  pub only_marker_words : (xs : List ℤ) → (k ≡ MarkerWord → get_or xs p (pos 0) ≡ get_or m.marker_words p (pos 0)) → value_at (with_marker_words m xs) k p ≡ value_at m k p
  only_marker_words xs h = grind arith

  pub only_constant_words : (xs : List ℤ) → (k ≡ ConstantWord → get_or xs p (pos 0) ≡ get_or m.constant_words p (pos 0)) → value_at (with_constant_words m xs) k p ≡ value_at m k p
  only_constant_words xs h = grind arith

  pub only_marker_doubles : (xs : List ℤ) → (k ≡ MarkerDouble → get_or xs p (pos 0) ≡ get_or m.marker_doubles p (pos 0)) → value_at (with_marker_doubles m xs) k p ≡ value_at m k p
  only_marker_doubles xs h = grind arith

  pub only_constant_doubles : (xs : List ℤ) → (k ≡ ConstantDouble → get_or xs p (pos 0) ≡ get_or m.constant_doubles p (pos 0)) → value_at (with_constant_doubles m xs) k p ≡ value_at m k p
  only_constant_doubles xs h = grind arith

  pub only_history : (xs : List ℤ) → value_at (with_history m xs) k p ≡ value_at m k p
  only_history xs = grind arith

-- elements that several sets leave, and those that they give
module _ {X : Type 0} (xs : List X) (x d : X) where
  pub filled_other : (first n i : ℕ) → (first ≤ i → i < first + n → ⊥) → get_or (filled xs first n x) i d ≡ get_or xs i d
  unfolding filled
  filled_other first zero i h = refl
  filled_other first (suc n) i h =
      get_or-set_other (filled xs first n x) (first + n) i x d (λ e. h (omega arith) (omega arith))
      ∙ filled_other first n i (λ a b. h a (omega arith))

  pub filled_same : (first n i : ℕ) → first ≤ i → i < first + n → i < length xs → get_or (filled xs first n x) i d ≡ x
  unfolding filled
  filled_same first zero i a b l = absurd (omega arith)
  filled_same first (suc n) i a b l =
      ⊎_elim
      (λ e.
      ap (λ (j : ℕ). get_or (set (filled xs first n x) (first + n) x) j d) e
      ∙ get_or-set_same (filled xs first n x) (first + n) x d (omega (arith, length_filled xs first n x, e)))
      (λ e. get_or-set_other (filled xs first n x) (first + n) i x d e ∙ filled_same first n i a (omega (arith, e)) l)
      (cases_eq i (first + n))

module _ (xs : List Bool) (first w : ℕ) (d : Bool) where
  pub spread_other : (n i : ℕ) → (first ≤ i → i < first + n → ⊥) → get_or (spread xs first w n) i d ≡ get_or xs i d
  unfolding spread
  spread_other zero i h = refl
  spread_other (suc n) i h =
      get_or-set_other (spread xs first w n) (first + n) i (bit_of w n) d (λ e. h (omega arith) (omega arith))
      ∙ spread_other n i (λ a b. h a (omega arith))

  pub spread_same : (n c : ℕ) → c < n → first + c < length xs → get_or (spread xs first w n) (first + c) d ≡ bit_of w c
  unfolding spread
  spread_same zero c b l = absurd (omega arith)
  spread_same (suc n) c b l =
      ⊎_elim
      (λ e.
      ap (λ (j : ℕ). get_or (set (spread xs first w n) (first + n) (bit_of w n)) (first + j) d) e
      ∙ get_or-set_same (spread xs first w n) (first + n) (bit_of w n) d (omega (arith, length_spread xs first w n, e))
      ∙ ap (bit_of w) (sym e))
      (λ e.
      get_or-set_other (spread xs first w n) (first + n) (first + c) (bit_of w n) d (λ x. e (omega (arith, x)))
      ∙ spread_same n c (omega (arith, e)) l)
      (cases_eq c n)
