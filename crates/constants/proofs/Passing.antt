-- One turn of the pass.
use Rattle.std.proofs.Common.{◌≡◌, ℕ, suc, ◌+◌, ◌*◌, ◌/◌, ◌<◌, Bool, true, false, cond, List, [], ◌∷◌, length, get_or, take, drop, Some, None, Option, sym, refl, ap, ◌∙◌, arith, length-drop, drop-cons}
use Rattle.operand.specs.declared.edition.Edition.{Edition}
use Rattle.operand.specs.declared.operand.Operand.{Operand}
use Rattle.image.specs.declared.constant.Constant.{Constant}
use Rattle.constants.specs.Rules.{constant_fits}
use Rattle.constants.specs.Decoded.{constant_decoded, constants_of}
use Rattle.constants.specs.Lawful.{constant_at, allowed, constant_fault, constants_from, fault_behind}

three : (e : Edition) (c l h : ℕ) (ws : List ℕ) → constants_of e (c ∷ l ∷ h ∷ ws) ≡ constant_decoded e c l h ∷ constants_of e ws
unfolding constants_of
three e c l h ws = refl

pub constants_more : (e : Edition) (ws : List ℕ) (i : ℕ) → i < length ws / 3 → constants_from e ws i ≡ constant_at e ws i ∷ constants_from e ws (i + 1)
constants_more e ws i h =
    let a : 3 * i < length ws = omega arith in
    let b : suc (3 * i) < length ws = omega arith in
    let c : suc (suc (3 * i)) < length ws = omega arith in
    let one : suc (3 * i) ≡ 3 * i + 1 = omega arith in
    let two : suc (suc (3 * i)) ≡ 3 * i + 2 = omega arith in
    let next : suc (suc (suc (3 * i))) ≡ 3 * (i + 1) = omega arith in
    ap (constants_of e)
    (drop-cons ws (3 * i) 0 a ∙ ap (λ (xs : List ℕ). get_or ws (3 * i) 0 ∷ xs)
    (drop-cons ws (suc (3 * i)) 0 b ∙ ap (λ (xs : List ℕ). get_or ws (suc (3 * i)) 0 ∷ xs) (drop-cons ws (suc (suc (3 * i))) 0 c)))
    ∙ (three e (get_or ws (3 * i) 0) (get_or ws (suc (3 * i)) 0) (get_or ws (suc (suc (3 * i))) 0) (drop (suc (suc (suc (3 * i)))) ws)
    ∙ (λ j. constant_decoded e (get_or ws (3 * i) 0) (get_or ws (one j) 0) (get_or ws (two j) 0) ∷ constants_of e (drop (next j) ws)))

-- less than one constant
pub short : (e : Edition) (ws : List ℕ) → length ws < 3 → constants_of e ws ≡ []
unfolding constants_of
short e [] h = refl
short e (a ∷ []) h = refl
short e (a ∷ b ∷ []) h = refl
short e (a ∷ b ∷ c ∷ ws) h = absurd (omega arith)

pub constants_all : (e : Edition) (ws : List ℕ) (i : ℕ) → i ≡ length ws / 3 → constants_from e ws i ≡ []
constants_all e ws i q = short e (drop (3 * i) ws) (simp length-drop (omega arith))

-- the first constant, and those behind it
pub constants_next : (e : Edition) (ws rest : List ℕ) (c : Option Constant) → rest ≡ drop 3 ws → length rest + 3 ≡ length ws
    → c ≡ constant_decoded e (get_or (take 3 ws) 0 0) (get_or (take 3 ws) 1 0) (get_or (take 3 ws) 2 0) → constants_of e ws ≡ c ∷ constants_of e rest
unfolding constants_of
constants_next e [] rest c r l q = absurd (omega arith)
constants_next e (a ∷ []) rest c r l q = absurd (omega arith)
constants_next e (a ∷ b ∷ []) rest c r l q = absurd (omega arith)
constants_next e (a ∷ b ∷ d ∷ ws) rest c r l q = λ j. sym q j ∷ constants_of e (sym r j)

module _ (last : Option Operand) (p : ℕ) where
  pub fault_cons : (x : Option Constant) (ys : List (Option Constant)) → constant_fault last (x ∷ ys) p ≡ fault_behind (allowed last x) ys p
  unfolding constant_fault
  fault_cons None ys = refl
  fault_cons (Some c) ys = by (constant_fits last c.operand)
    where
      by : (b : Bool) → cond b (constant_fault (Some c.operand) ys (p + 1)) (Some p) ≡ fault_behind (cond b (Some c.operand) None) ys p
      by true = refl
      by false = refl

  pub fault_none : constant_fault last [] p ≡ None
  unfolding constant_fault
  fault_none = refl

module _ (o : Option Operand) (ys : List (Option Constant)) (p : ℕ) where
  -- a constant at fault, and one that is not
  pub fault_at : o ≡ None → fault_behind o ys p ≡ Some p
  fault_at h = ap (λ (q : Option Operand). fault_behind q ys p) h

  pub fault_past : (t : Operand) → o ≡ Some t → fault_behind o ys p ≡ constant_fault (Some t) ys (p + 1)
  fault_past t h = ap (λ (q : Option Operand). fault_behind q ys p) h

-- what the pass over the constants takes from turn to turn
pub ruleset passing = (fault_cons, fault_at, fault_past, fault_none)
