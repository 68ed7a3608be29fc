-- The pass finds no fault exactly where the words are those of lawful constants in rising order.
use Rattle.std.proofs.Common.{◌≡◌, ℕ, zero, suc, ◌+◌, ◌*◌, ◌<◌, Bool, true, false, cond, List, [], ◌∷◌, length, get_or, Some, None, Option, sym, refl, ap, ◌∙◌, arith}
use Rattle.std.proofs.lemmas.Bool.{cond-true}
use Rattle.operand.specs.declared.edition.Edition.{Edition}
use Rattle.operand.specs.declared.operand.Operand.{Operand}
use Rattle.image.specs.declared.constant.Constant.{Constant}
use Rattle.image.specs.Images.{constant_words}
use Rattle.constants.specs.Rules.{constant_fits}
use Rattle.constants.specs.Decoded.{constant_decoded, constants_of}
use Rattle.constants.specs.Lawful.{Decodes, AllLawful, Judged, constant_fault}
use Rattle.constants.proofs.Exact.{constant_again, decoded_exactly}

-- words are below 65,536
abbrev pub Fitting : List ℕ → Type 0
Fitting ws = (i : ℕ) → get_or ws i 0 < 65536

-- the words of lawful constants behind a last one
abbrev Rises : Edition → Option Operand → List ℕ → Type 0
Rises e last ws = (cs : List Constant) × (constant_words cs ≡ ws) × AllLawful e last cs

module _ (e : Edition) where
  one_more : (last : Option Operand) (c : Constant) (a l h : ℕ) (ws : List ℕ) → Decodes e a l h (Some c) → constant_fits last c.operand ≡ true → Rises e (Some c.operand) ws → Rises e last (a ∷ l ∷ h ∷ ws)
  unfolding constant_words
  one_more last c a l h ws d f (cs, w, r) =
      (c ∷ cs, (λ i. d.1 i ∷ (d.2 i ∷ (d.3 i ∷ w i))), (d.0, f, r))

  -- three words more, where what follows them rises
  met : (last : Option Operand) (a b c : ℕ) (ws : List ℕ) (p : ℕ) → b < 65536 → c < 65536
      → ((o : Option Operand) → constant_fault o (constants_of e ws) (p + 1) ≡ None → Rises e o ws)
      → (o : Option Constant) → o ≡ constant_decoded e a b c → constant_fault last (o ∷ constants_of e ws) p ≡ None → Rises e last (a ∷ b ∷ c ∷ ws)
  unfolding constant_fault
  met last a b c ws p f g ih None i m = cc
  met last a b c ws p f g ih (Some k) i m = by (constant_fits last k.operand) refl m
    where
      by : (t : Bool) → constant_fits last k.operand ≡ t → cond t (constant_fault (Some k.operand) (constants_of e ws) (p + 1)) (Some p) ≡ None → Rises e last (a ∷ b ∷ c ∷ ws)
      by true j n = one_more last k a b c ws (decoded_exactly e a b c f g (Some k) i) j (ih (Some k.operand) n)
      by false j n = cc

  -- no fault: they are lawful
  pub sound : (n : ℕ) (ws : List ℕ) (last : Option Operand) (p : ℕ) → length ws ≡ 3 * n → Fitting ws → constant_fault last (constants_of e ws) p ≡ None → Rises e last ws
  unfolding constants_of constant_fault constant_words
  sound n [] last p q f h = ([], refl, tt)
  sound n (a ∷ []) last p q f h = absurd (omega arith)
  sound n (a ∷ b ∷ []) last p q f h = absurd (omega arith)
  sound zero (a ∷ b ∷ c ∷ ws) last p q f h = absurd (omega arith)
  sound (suc n) (a ∷ b ∷ c ∷ ws) last p q f h =
      met last a b c ws p (f 1) (f 2) (λ o m. sound n ws o (p + 1) (omega arith) (λ j. f (suc (suc (suc j)))) m) (constant_decoded e a b c) refl h

  -- lawful constants have no fault
  pub complete : (cs : List Constant) (last : Option Operand) (p : ℕ) → AllLawful e last cs → constant_fault last (constants_of e (constant_words cs)) p ≡ None
  unfolding constants_of constant_fault constant_words
  complete [] last p r = refl
  complete (c ∷ cs) last p (l, f, r) =
      ap (λ (o : Option Constant). constant_fault last (o ∷ constants_of e (constant_words cs)) p) (constant_again c e l)
      ∙ (cond-true _ _ _ f ∙ complete cs (Some c.operand) (p + 1) r)

  pub judged : (n : ℕ) (ws : List ℕ) → length ws ≡ 3 * n → Fitting ws → (r : Option ℕ) → r ≡ constant_fault None (constants_of e ws) 0 → Judged e ws r
  judged n ws q f None h = sound n ws None 0 q f (sym h)
  judged n ws q f (Some p) h = λ (cs, w, l). let z = complete cs None 0 l in let same = ap (λ (us : List ℕ). constant_fault None (constants_of e us) 0) w in cc
