-- Three words stand for a constant exactly when it is lawful and has them.
use Rattle.std.proofs.Common.{◌≡◌, ℕ, ◌+◌, ◌*◌, ◌/◌, ◌%◌, ◌<◌, Bool, true, false, cond, not, ◌&&◌, eqb, ℤ, ◌≤ℤ◌, Some, None, Option, sym, refl, ap, ◌∙◌, subst, arith}
use Rattle.std.proofs.lemmas.Bool.{eqb-true}
use Rattle.std.proofs.lemmas.Bool.Decides.{nat_tests}
use Rattle.operand.specs.declared.edition.Edition.{Edition}
use Rattle.operand.specs.declared.kind.Kind.{Kind}
use Rattle.operand.specs.declared.kind.Kind.TheVariants as Of
use Rattle.operand.specs.declared.operand.Operand.{Operand}
use Rattle.operand.specs.Codes.{decoded, in_range, code_of}
use Rattle.operand.specs.Kinds.{size_of}
use Rattle.operand.proofs.Undoing.{undone, decoded_right}
use Rattle.image.specs.declared.constant.Constant.{Constant}
use Rattle.image.specs.Constants.{bits_32, low_word, high_word, high_half}
use Rattle.constants.specs.Rules.{constant_kind, least, most}
use Rattle.constants.specs.Decoded.{word_value, double_value, word_constant, double_constant, by_kind, by_operand, constant_decoded}
use Rattle.constants.specs.Lawful.{Lawful, Decodes}
use Rattle.constants.proofs.Values as Values

abbrev made : Operand → ℤ → Constant
made o z = record { operand = o; value = z }

module _ (c : Constant) where
  word_back : least (size_of Of.ConstantWord) ≤ℤ c.value → c.value ≤ℤ most (size_of Of.ConstantWord) → word_constant c.operand (low_word c) 0 ≡ Some c
  word_back l m =
      ap (λ b. cond (not b) (Some (record { operand = c.operand; value = word_value (low_word c) })) None) (Values.word_lawful c.value l m)
      ∙ ap (λ (z : ℤ). Some (record { operand = c.operand; value = z })) (Values.word_again c.value l m)

  double_back : least (size_of Of.ConstantDouble) ≤ℤ c.value → c.value ≤ℤ most (size_of Of.ConstantDouble) → double_constant c.operand (low_word c) (bits_32 c.value / 65536) ≡ Some c
  double_back l m =
      ap (λ b. cond b None (Some (record { operand = c.operand; value = double_value (65536 * (bits_32 c.value / 65536) + low_word c) }))) (Values.double_lawful c.value l m)
      ∙ ap (λ (z : ℤ). Some (record { operand = c.operand; value = z })) (Values.double_again c.value l m)

  no_constant : {P : Type 0} → false ≡ true → P
  no_constant h = cc

  kind_back : (k : Kind) → constant_kind k ≡ true → least (size_of k) ≤ℤ c.value → c.value ≤ℤ most (size_of k) → by_kind k c.operand (low_word c) (high_half (size_of k) c.value) ≡ Some c
  kind_back Of.Input h l m = no_constant h
  kind_back Of.Output h l m = no_constant h
  kind_back Of.Marker h l m = no_constant h
  kind_back Of.Step h l m = no_constant h
  kind_back Of.Constant h l m = no_constant h
  kind_back Of.InputWord h l m = no_constant h
  kind_back Of.OutputWord h l m = no_constant h
  kind_back Of.MarkerWord h l m = no_constant h
  kind_back Of.ConstantWord h l m = word_back l m
  kind_back Of.MarkerDouble h l m = no_constant h
  kind_back Of.ConstantDouble h l m = double_back l m

  pub constant_again : (e : Edition) → Lawful e c → constant_decoded e (code_of c.operand) (low_word c) (high_word c) ≡ Some c
  constant_again e h = ap (λ o. by_operand o (low_word c) (high_word c)) (undone e c.operand h.0) ∙ kind_back c.operand.kind h.1 h.2 h.3

-- what is right of a constant with these words
abbrev Right : Edition → ℕ → ℕ → ℕ → Constant → Type 0
Right e code low high c = Lawful e c × (code_of c.operand ≡ code) × (low_word c ≡ low) × (high_word c ≡ high)

-- the same of a kind, for an operand of the edition
abbrev Valued : Kind → ℕ → ℕ → ℤ → Type 0
Valued k low high z = (constant_kind k ≡ true) × (least (size_of k) ≤ℤ z) × (z ≤ℤ most (size_of k)) × (bits_32 z % 65536 ≡ low) × (high_half (size_of k) z ≡ high)

module _ (o : Operand) (low high : ℕ) (low_fits : low < 65536) (high_fits : high < 65536) where
  word_right : (c : Constant) → word_constant o low high ≡ Some c → (c.operand ≡ o) × Valued Of.ConstantWord low high c.value
  word_right c h = by (eqb high 0) (eqb low 32768) refl refl h
    where
      by : (a b : Bool) → eqb high 0 ≡ a → eqb low 32768 ≡ b → cond (a && not b) (Some (record { operand = o; value = word_value low })) None ≡ Some c → (c.operand ≡ o) × Valued Of.ConstantWord low high c.value
      by false b u v d = cc
      by true true u v d = cc
      by true false u v d =
          let same : made o (word_value low) ≡ c = cc in
          subst (λ (x : Constant). (x.operand ≡ o) × Valued Of.ConstantWord low high x.value) same
          (refl, (refl, Values.word_least low low_fits v, Values.word_most low low_fits v, Values.word_bits low low_fits v, sym (eqb-true high 0 u)))

  double_right : (c : Constant) → double_constant o low high ≡ Some c → (c.operand ≡ o) × Valued Of.ConstantDouble low high c.value
  double_right c h = by (eqb low 0 && eqb high 32768) refl h
    where
      by : (a : Bool) → (eqb low 0 && eqb high 32768) ≡ a → cond a None (Some (record { operand = o; value = double_value (65536 * high + low) })) ≡ Some c → (c.operand ≡ o) × Valued Of.ConstantDouble low high c.value
      by true u d = cc
      by false u d =
          let same : made o (double_value (65536 * high + low)) ≡ c = cc in
          let fits : 65536 * high + low < 4294967296 = omega arith in
          let bits = Values.double_bits (65536 * high + low) fits in
          let lawful : eqb (65536 * high + low) 2147483648 ≡ false = grind (arith, nat_tests) in
          subst (λ (x : Constant). (x.operand ≡ o) × Valued Of.ConstantDouble low high x.value) same
          (refl, (refl, Values.double_least (65536 * high + low) fits lawful, Values.double_most (65536 * high + low) fits, omega (arith, bits), omega (arith, bits)))

  kind_right : (k : Kind) (c : Constant) → by_kind k o low high ≡ Some c → (c.operand ≡ o) × Valued k low high c.value
  kind_right Of.Input c h = cc
  kind_right Of.Output c h = cc
  kind_right Of.Marker c h = cc
  kind_right Of.Step c h = cc
  kind_right Of.Constant c h = cc
  kind_right Of.InputWord c h = cc
  kind_right Of.OutputWord c h = cc
  kind_right Of.MarkerWord c h = cc
  kind_right Of.ConstantWord c h = word_right c h
  kind_right Of.MarkerDouble c h = cc
  kind_right Of.ConstantDouble c h = double_right c h

  right : (e : Edition) (c : Constant) → in_range e o ≡ true → by_kind o.kind o low high ≡ Some c → Right e (code_of o) low high c
  right e c r h =
      let w = kind_right o.kind c h in
      let v = w.1 in
      let P : Operand → Type 0 = λ q. Right e (code_of o) low high (made q c.value) in
      subst P (sym w.0) ((r, v.0, v.1, v.2), refl, v.3, v.4)

pub decoded_exactly : (e : Edition) (code low high : ℕ) → low < 65536 → high < 65536 → (r : Option Constant) → r ≡ constant_decoded e code low high → Decodes e code low high r
decoded_exactly e code low high lf hf None h = λ c l p q s. let b = constant_again c e l in cc
decoded_exactly e code low high lf hf (Some c) h = by (decoded e code) refl (sym h)
  where
    by : (d : Option Operand) → d ≡ decoded e code → by_operand d low high ≡ Some c → Right e code low high c
    by None q d = cc
    by (Some o) q d = let r = decoded_right e code (Some o) q in subst (λ n. Right e n low high c) r.1 (right o low high lf hf e c r.0 d)
