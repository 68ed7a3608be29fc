-- What is true of every memory is kept where one array is exchanged, and by every change.
use Rattle.std.proofs.Common.{◌≡◌, ℕ, zero, suc, ◌+◌, ◌-◌, ◌*◌, ◌/◌, ◌%◌, Bool, true, false, cond, List, [], ◌∷◌, length, get_or, set, replicate, ℤ, pos, sym, refl, ap, ◌∙◌, arith, length-set}
use Rattle.std.proofs.lemmas.Bool.{and_from, and_parts, lt-ltb}
use Rattle.number.specs.Limits.{lawful, limited_to}
use Rattle.number.specs.declared.limit.Width.{Width}
use Rattle.number.specs.declared.limit.Width.TheVariants.{Word, Double}
use Rattle.number.proofs.Lawful.{limited_lawful}
use Rattle.operand.specs.declared.kind.Kind.{Kind}
use Rattle.operand.specs.declared.kind.Kind.TheVariants.{Input, Output, Marker, Step, Constant, InputWord, OutputWord, MarkerWord, ConstantWord, MarkerDouble, ConstantDouble}
use Rattle.store.specs.declared.chain.Chain.{Chain}
use Rattle.store.specs.declared.store.Store.{Store}
use Rattle.store.specs.Chains.{moved_to, no_chain, at_rest}
use Rattle.store.specs.Changes.{with_inputs, with_outputs, with_markers, with_chains, with_input_words, with_output_words, with_marker_words, with_constant_words, with_marker_doubles, with_constant_doubles, with_history, new_store, stored_at, constant_at, group_loaded, word_loaded, cell_put, cells_cleared, cleared_at}
use Rattle.store.specs.Places.{filled, spread}
use Rattle.store.specs.Words.{truth, bit_of}
use Rattle.memory.specs.Facts.{every, in_chain, steps_lawful, all_lawful, sizes_of, all_sizes}

pub record Held (m : Store) : Type 0 where
  pub whole : sizes_of m ≡ all_sizes
  pub steps : steps_lawful m.chains ≡ true
  pub outs : all_lawful Word m.output_words ≡ true
  pub marks : all_lawful Word m.marker_words ≡ true
  pub consts : all_lawful Word m.constant_words ≡ true
  pub doubles : all_lawful Double m.marker_doubles ≡ true
  pub const_doubles : all_lawful Double m.constant_doubles ≡ true

module _ (m : Store) (h : Held m) where
  pub held_inputs : (xs : List Bool) → length xs ≡ length m.inputs → Held (with_inputs m xs)
  held_inputs xs e = record { whole = ap (λ k. k ∷ length m.outputs ∷ length m.markers ∷ length m.chains ∷ length m.input_words ∷ length m.output_words ∷ length m.marker_words ∷ length m.constant_words ∷ length m.marker_doubles ∷ length m.constant_doubles ∷ length m.history ∷ []) e ∙ h.whole; steps = h.steps; outs = h.outs; marks = h.marks; consts = h.consts; doubles = h.doubles; const_doubles = h.const_doubles }

  pub held_outputs : (xs : List Bool) → length xs ≡ length m.outputs → Held (with_outputs m xs)
  held_outputs xs e = record { whole = ap (λ k. length m.inputs ∷ k ∷ length m.markers ∷ length m.chains ∷ length m.input_words ∷ length m.output_words ∷ length m.marker_words ∷ length m.constant_words ∷ length m.marker_doubles ∷ length m.constant_doubles ∷ length m.history ∷ []) e ∙ h.whole; steps = h.steps; outs = h.outs; marks = h.marks; consts = h.consts; doubles = h.doubles; const_doubles = h.const_doubles }

  pub held_markers : (xs : List Bool) → length xs ≡ length m.markers → Held (with_markers m xs)
  held_markers xs e = record { whole = ap (λ k. length m.inputs ∷ length m.outputs ∷ k ∷ length m.chains ∷ length m.input_words ∷ length m.output_words ∷ length m.marker_words ∷ length m.constant_words ∷ length m.marker_doubles ∷ length m.constant_doubles ∷ length m.history ∷ []) e ∙ h.whole; steps = h.steps; outs = h.outs; marks = h.marks; consts = h.consts; doubles = h.doubles; const_doubles = h.const_doubles }

  pub held_chains : (xs : List Chain) → length xs ≡ length m.chains → steps_lawful xs ≡ true → Held (with_chains m xs)
  held_chains xs e t = record { whole = ap (λ k. length m.inputs ∷ length m.outputs ∷ length m.markers ∷ k ∷ length m.input_words ∷ length m.output_words ∷ length m.marker_words ∷ length m.constant_words ∷ length m.marker_doubles ∷ length m.constant_doubles ∷ length m.history ∷ []) e ∙ h.whole; steps = t; outs = h.outs; marks = h.marks; consts = h.consts; doubles = h.doubles; const_doubles = h.const_doubles }

  pub held_input_words : (xs : List ℕ) → length xs ≡ length m.input_words → Held (with_input_words m xs)
  held_input_words xs e = record { whole = ap (λ k. length m.inputs ∷ length m.outputs ∷ length m.markers ∷ length m.chains ∷ k ∷ length m.output_words ∷ length m.marker_words ∷ length m.constant_words ∷ length m.marker_doubles ∷ length m.constant_doubles ∷ length m.history ∷ []) e ∙ h.whole; steps = h.steps; outs = h.outs; marks = h.marks; consts = h.consts; doubles = h.doubles; const_doubles = h.const_doubles }

  pub held_output_words : (xs : List ℤ) → length xs ≡ length m.output_words → all_lawful Word xs ≡ true → Held (with_output_words m xs)
  held_output_words xs e t = record { whole = ap (λ k. length m.inputs ∷ length m.outputs ∷ length m.markers ∷ length m.chains ∷ length m.input_words ∷ k ∷ length m.marker_words ∷ length m.constant_words ∷ length m.marker_doubles ∷ length m.constant_doubles ∷ length m.history ∷ []) e ∙ h.whole; steps = h.steps; outs = t; marks = h.marks; consts = h.consts; doubles = h.doubles; const_doubles = h.const_doubles }

  pub held_marker_words : (xs : List ℤ) → length xs ≡ length m.marker_words → all_lawful Word xs ≡ true → Held (with_marker_words m xs)
  held_marker_words xs e t = record { whole = ap (λ k. length m.inputs ∷ length m.outputs ∷ length m.markers ∷ length m.chains ∷ length m.input_words ∷ length m.output_words ∷ k ∷ length m.constant_words ∷ length m.marker_doubles ∷ length m.constant_doubles ∷ length m.history ∷ []) e ∙ h.whole; steps = h.steps; outs = h.outs; marks = t; consts = h.consts; doubles = h.doubles; const_doubles = h.const_doubles }

  pub held_constant_words : (xs : List ℤ) → length xs ≡ length m.constant_words → all_lawful Word xs ≡ true → Held (with_constant_words m xs)
  held_constant_words xs e t = record { whole = ap (λ k. length m.inputs ∷ length m.outputs ∷ length m.markers ∷ length m.chains ∷ length m.input_words ∷ length m.output_words ∷ length m.marker_words ∷ k ∷ length m.marker_doubles ∷ length m.constant_doubles ∷ length m.history ∷ []) e ∙ h.whole; steps = h.steps; outs = h.outs; marks = h.marks; consts = t; doubles = h.doubles; const_doubles = h.const_doubles }

  pub held_marker_doubles : (xs : List ℤ) → length xs ≡ length m.marker_doubles → all_lawful Double xs ≡ true → Held (with_marker_doubles m xs)
  held_marker_doubles xs e t = record { whole = ap (λ k. length m.inputs ∷ length m.outputs ∷ length m.markers ∷ length m.chains ∷ length m.input_words ∷ length m.output_words ∷ length m.marker_words ∷ length m.constant_words ∷ k ∷ length m.constant_doubles ∷ length m.history ∷ []) e ∙ h.whole; steps = h.steps; outs = h.outs; marks = h.marks; consts = h.consts; doubles = t; const_doubles = h.const_doubles }

  pub held_constant_doubles : (xs : List ℤ) → length xs ≡ length m.constant_doubles → all_lawful Double xs ≡ true → Held (with_constant_doubles m xs)
  held_constant_doubles xs e t = record { whole = ap (λ k. length m.inputs ∷ length m.outputs ∷ length m.markers ∷ length m.chains ∷ length m.input_words ∷ length m.output_words ∷ length m.marker_words ∷ length m.constant_words ∷ length m.marker_doubles ∷ k ∷ length m.history ∷ []) e ∙ h.whole; steps = h.steps; outs = h.outs; marks = h.marks; consts = h.consts; doubles = h.doubles; const_doubles = t }

  pub held_history : (xs : List ℤ) → length xs ≡ length m.history → Held (with_history m xs)
  held_history xs e = record { whole = ap (λ k. length m.inputs ∷ length m.outputs ∷ length m.markers ∷ length m.chains ∷ length m.input_words ∷ length m.output_words ∷ length m.marker_words ∷ length m.constant_words ∷ length m.marker_doubles ∷ length m.constant_doubles ∷ k ∷ []) e ∙ h.whole; steps = h.steps; outs = h.outs; marks = h.marks; consts = h.consts; doubles = h.doubles; const_doubles = h.const_doubles }

module _ {X : Type 0} (t : X → Bool) (x : X) (h : t x ≡ true) where
  pub every_set : (xs : List X) (i : ℕ) → every t xs ≡ true → every t (set xs i x) ≡ true
  every_set [] i e = refl
  every_set (y ∷ ys) zero e = and_from (t x) (every t ys) h (and_parts (t y) (every t ys) e).1
  every_set (y ∷ ys) (suc i) e =
      and_from (t y) (every t (set ys i x)) (and_parts (t y) (every t ys) e).0 (every_set ys i (and_parts (t y) (every t ys) e).1)

  pub every_filled : (xs : List X) (first n : ℕ) → every t xs ≡ true → every t (filled xs first n x) ≡ true
  unfolding filled
  every_filled xs first zero e = e
  every_filled xs first (suc n) e = every_set (filled xs first n x) (first + n) (every_filled xs first n e)

pub length_filled : {X : Type 0} (xs : List X) (first n : ℕ) (x : X) → length (filled xs first n x) ≡ length xs
unfolding filled
length_filled xs first zero x = refl
length_filled xs first (suc n) x = length-set (filled xs first n x) (first + n) x ∙ length_filled xs first n x

pub length_spread : (xs : List Bool) (first w n : ℕ) → length (spread xs first w n) ≡ length xs
unfolding spread
length_spread xs first w zero = refl
length_spread xs first w (suc n) = length-set (spread xs first w n) (first + n) (bit_of w n) ∙ length_spread xs first w n

module _ (m : Store) (h : Held m) where
  step_held : (p : ℕ) (b : Bool) → Held (cond b (with_chains m (set m.chains (p / 16) (moved_to (get_or m.chains (p / 16) no_chain) (p % 16)))) m)
  step_held p true =
      let c : Chain = moved_to (get_or m.chains (p / 16) no_chain) (p % 16) in
      held_chains m h (set m.chains (p / 16) c) (length-set m.chains (p / 16) c)
      (every_set in_chain c (lt-ltb (p % 16) 16 (omega arith)) m.chains (p / 16) h.steps)
  step_held p false = h

  words_set : (w : Width) (zs : List ℤ) (p : ℕ) (v : ℤ) → all_lawful w zs ≡ true → all_lawful w (set zs p (limited_to w v)) ≡ true
  words_set w zs p v e = every_set (lawful w) (limited_to w v) (limited_lawful w v) zs p e

  pub held_stored : (k : Kind) (p : ℕ) (v : ℤ) → Held (stored_at m k p v)
  held_stored Input p v = h
  held_stored Output p v = held_outputs m h (set m.outputs p (truth v)) (length-set m.outputs p (truth v))
  held_stored Marker p v = held_markers m h (set m.markers p (truth v)) (length-set m.markers p (truth v))
  held_stored Step p v = step_held p (truth v)
  held_stored Constant p v = h
  held_stored InputWord p v = h
  held_stored OutputWord p v =
      held_output_words m h (set m.output_words p (limited_to Word v)) (length-set m.output_words p (limited_to Word v)) (words_set Word m.output_words p v h.outs)
  held_stored MarkerWord p v =
      held_marker_words m h (set m.marker_words p (limited_to Word v)) (length-set m.marker_words p (limited_to Word v)) (words_set Word m.marker_words p v h.marks)
  held_stored ConstantWord p v = h
  held_stored MarkerDouble p v =
      held_marker_doubles m h (set m.marker_doubles p (limited_to Double v)) (length-set m.marker_doubles p (limited_to Double v)) (words_set Double m.marker_doubles p v h.doubles)
  held_stored ConstantDouble p v = h

  pub held_constant : (k : Kind) (p : ℕ) (v : ℤ) → Held (constant_at m k p v)
  held_constant Input p v = h
  held_constant Output p v = h
  held_constant Marker p v = h
  held_constant Step p v = h
  held_constant Constant p v = h
  held_constant InputWord p v = h
  held_constant OutputWord p v = h
  held_constant MarkerWord p v = h
  held_constant ConstantWord p v =
      held_constant_words m h (set m.constant_words p (limited_to Word v)) (length-set m.constant_words p (limited_to Word v)) (words_set Word m.constant_words p v h.consts)
  held_constant MarkerDouble p v = h
  held_constant ConstantDouble p v =
      held_constant_doubles m h (set m.constant_doubles p (limited_to Double v)) (length-set m.constant_doubles p (limited_to Double v)) (words_set Double m.constant_doubles p v h.const_doubles)

  pub held_group : (group w : ℕ) → Held (group_loaded m group w)
  held_group group w = held_inputs m h (spread m.inputs (16 * group) w 16) (length_spread m.inputs (16 * group) w 16)

  pub held_word : (p w : ℕ) → Held (word_loaded m p w)
  held_word p w = held_input_words m h (set m.input_words p w) (length-set m.input_words p w)

  pub held_cell : (c : ℕ) (v : ℤ) → Held (cell_put m c v)
  held_cell c v = held_history m h (set m.history c v) (length-set m.history c v)

  words_filled : (w : Width) (zs : List ℤ) (first n : ℕ) → lawful w (pos 0) ≡ true → all_lawful w zs ≡ true → all_lawful w (filled zs first n (pos 0)) ≡ true
  words_filled w zs first n o e = every_filled (lawful w) (pos 0) o zs first n e

  pub held_cleared : (k : Kind) (a b : ℕ) → Held (cleared_at m k a b)
  held_cleared Input a b = held_inputs m h _ (length_filled m.inputs (16 * a) (16 * (b + 1 - a)) false)
  held_cleared Output a b = held_outputs m h _ (length_filled m.outputs (16 * a) (16 * (b + 1 - a)) false)
  held_cleared Marker a b = held_markers m h _ (length_filled m.markers (16 * a) (16 * (b + 1 - a)) false)
  held_cleared Step a b =
      held_chains m h _ (length_filled m.chains a (b + 1 - a) at_rest) (every_filled in_chain at_rest refl m.chains a (b + 1 - a) h.steps)
  held_cleared Constant a b = h
  held_cleared InputWord a b = held_input_words m h _ (length_filled m.input_words (16 * a) (16 * (b + 1 - a)) 0)
  held_cleared OutputWord a b =
      held_output_words m h _ (length_filled m.output_words (16 * a) (16 * (b + 1 - a)) (pos 0)) (words_filled Word m.output_words (16 * a) (16 * (b + 1 - a)) refl h.outs)
  held_cleared MarkerWord a b =
      held_marker_words m h _ (length_filled m.marker_words (16 * a) (16 * (b + 1 - a)) (pos 0)) (words_filled Word m.marker_words (16 * a) (16 * (b + 1 - a)) refl h.marks)
  held_cleared ConstantWord a b =
      held_constant_words m h _ (length_filled m.constant_words (16 * a) (16 * (b + 1 - a)) (pos 0)) (words_filled Word m.constant_words (16 * a) (16 * (b + 1 - a)) refl h.consts)
  held_cleared MarkerDouble a b =
      held_marker_doubles m h _ (length_filled m.marker_doubles (16 * a) (16 * (b + 1 - a)) (pos 0)) (words_filled Double m.marker_doubles (16 * a) (16 * (b + 1 - a)) refl h.doubles)
  held_cleared ConstantDouble a b =
      held_constant_doubles m h _ (length_filled m.constant_doubles (16 * a) (16 * (b + 1 - a)) (pos 0)) (words_filled Double m.constant_doubles (16 * a) (16 * (b + 1 - a)) refl h.const_doubles)

  -- how many places the array at an index of the sizes has
  pub size_at : (i : ℕ) → get_or (sizes_of m) i 0 ≡ get_or all_sizes i 0
  size_at i = ap (λ (ns : List ℕ). get_or ns i 0) h.whole

  pub held_cells : Held (cells_cleared m)
  held_cells = held_history m h (replicate 1024 (pos 0)) (sym (size_at 10))

pub held_new : Held new_store
held_new = record { whole = refl; steps = refl; outs = refl; marks = refl; consts = refl; doubles = refl; const_doubles = refl }
