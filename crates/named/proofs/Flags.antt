-- The sets of named points: one more item, and which items put a point there.
use Rattle.std.proofs.Common.{◌≡◌, ℕ, zero, suc, ◌+◌, ◌<◌, Bool, true, false, cond, ◌||◌, eqb, ltb, List, length, get_or, Some, None, Option, sym, refl, ap, ◌∙◌, subst, ⊎_elim, add-one, arith}
use Rattle.std.proofs.lemmas.List.{get_or_past}
use Rattle.std.proofs.lemmas.Bool.{false≢true, and_parts, and_from, or_left, or_right, or_cases, eqb-true, eq-eqb, ltb-true, cases_lt}
use Rattle.operand.specs.declared.edition.Edition.{Edition}
use Rattle.operand.specs.declared.kind.Kind.{Kind as AnyKind}
use Rattle.operand.specs.declared.kind.Kind.TheVariants as Of
use Rattle.operand.specs.declared.operand.Operand.{Operand as AnyOperand}
use Rattle.operand.specs.Codes.{place_of}
use Rattle.item.specs.declared.item.Item.{Item}
use Rattle.item.specs.declared.item.Item.TheVariants.{Nop, Start, Open, Close, Operand, Operator, Compare, Assign, EndIf, Call, Kind, Pin, Direct, Mark, End}
use Rattle.decode.specs.Words.{item_at}
use Rattle.named.specs.declared.point.Side.{Side}
use Rattle.named.specs.declared.point.Side.TheVariants.{Input, Output}
use Rattle.named.specs.declared.point.NamedPoint.{NamedPoint}
use Rattle.named.specs.Naming.{by_kind, group_point, word_point, operand_point, item_point, known_point, point_at}
use Rattle.named.specs.Sets.{same_side, is_point, names, Naming, Has}

-- a point that is named is one of 0 to 191
abbrev Inside : Option NamedPoint → Type 0
Inside None = Unit {0}
Inside (Some n) = n.point < 192

group_inside : (side : Side) (g : ℕ) → Inside (group_point side g)
group_inside side g = by (ltb g 64) refl
  where
    by : (b : Bool) → ltb g 64 ≡ b → Inside (cond b (Some (record { side = side; point = g })) None)
    by true t = let l = ltb-true g 64 t in omega arith
    by false t = tt

word_inside : (side : Side) (p : ℕ) → Inside (word_point side p)
word_inside side p = by (ltb p 128) refl
  where
    by : (b : Bool) → ltb p 128 ≡ b → Inside (cond b (Some (record { side = side; point = 64 + p })) None)
    by true t = let l = ltb-true p 128 t in omega arith
    by false t = tt

kind_inside : (k : AnyKind) (group place : ℕ) → Inside (by_kind group_point word_point k group place)
kind_inside Of.Input group place = group_inside Input group
kind_inside Of.Output group place = group_inside Output group
kind_inside Of.Marker group place = tt
kind_inside Of.Step group place = tt
kind_inside Of.Constant group place = tt
kind_inside Of.InputWord group place = word_inside Input place
kind_inside Of.OutputWord group place = word_inside Output place
kind_inside Of.MarkerWord group place = tt
kind_inside Of.ConstantWord group place = tt
kind_inside Of.MarkerDouble group place = tt
kind_inside Of.ConstantDouble group place = tt

operand_inside : (o : AnyOperand) → Inside (operand_point o)
operand_inside o = kind_inside o.kind o.group (place_of o)

item_inside : (i : Item) → Inside (item_point i)
item_inside Nop = tt
item_inside (Start t) = tt
item_inside (Open t) = tt
item_inside Close = tt
item_inside (Operand o) = operand_inside o
item_inside (Operator o) = tt
item_inside (Compare c) = tt
item_inside (Assign f o) = operand_inside o
item_inside EndIf = tt
item_inside (Call n) = tt
item_inside (Kind b) = tt
item_inside (Pin o) = operand_inside o
item_inside (Direct w) = tt
item_inside (Mark m) = tt
item_inside End = tt

known_inside : (i : Option Item) → Inside (known_point i)
known_inside None = tt
known_inside (Some i) = item_inside i

same_side_so : (a b : Side) → same_side a b ≡ true → a ≡ b
same_side_so Input Input h = refl
same_side_so Input Output h = absurd (false≢true h)
same_side_so Output Input h = absurd (false≢true h)
same_side_so Output Output h = refl

side_itself : (a : Side) → same_side a a ≡ true
side_itself Input = refl
side_itself Output = refl

is_point_so : (s : Side) (p : ℕ) (o : Option NamedPoint) → is_point s p o ≡ true → o ≡ Some (record { side = s; point = p })
is_point_so s p None h = absurd (false≢true h)
is_point_so s p (Some n) h =
    let t = and_parts (same_side n.side s) (eqb n.point p) h in
    λ i. Some (record { side = same_side_so n.side s t.0 i; point = eqb-true n.point p t.1 i })

module _ (e : Edition) (ws : List ℕ) (s : Side) (p : ℕ) where
  pub names_none : names e ws s p 0 ≡ false
  unfolding names
  names_none = refl

  pub names_more : (n : ℕ) → names e ws s p (n + 1) ≡ (names e ws s p n || is_point s p (point_at e ws n))
  unfolding names
  names_more n = rw (add-one n) refl

  -- one item more
  wider : (n : ℕ) → Naming e ws s p n → Naming e ws s p (suc n)
  wider n x = let l = x.within in record { place = x.place; within = omega arith; here = x.here }

  last : (n : ℕ) → is_point s p (point_at e ws n) ≡ true → Naming e ws s p (suc n)
  last n h = record { place = n; within = omega arith; here = is_point_so s p (point_at e ws n) h }

  only : (n : ℕ) → names e ws s p n ≡ true → Naming e ws s p n
  unfolding names
  only zero h = absurd (false≢true h)
  only (suc n) h = ⊎_elim (λ t. wider n (only n t)) (last n) (or_cases (names e ws s p n) (is_point s p (point_at e ws n)) h)

  is_here : (o : Option NamedPoint) → o ≡ Some (record { side = s; point = p }) → is_point s p o ≡ true
  is_here o h = ap (is_point s p) h ∙ and_from (same_side s s) (eqb p p) (side_itself s) (eq-eqb p p refl)

  all : (n : ℕ) → Naming e ws s p n → names e ws s p n ≡ true
  unfolding names
  all zero x = let l = x.within in absurd (omega arith)
  all (suc n) x =
      ⊎_elim
      (λ l. or_left _ _ (all n (record { place = x.place; within = l; here = x.here })))
      (λ l. let w = x.within in
      let q : n ≡ x.place = omega arith in
      or_right _ _ (is_here (point_at e ws n) (ap (point_at e ws) q ∙ x.here)))
      (cases_lt x.place n)

  inside : (n : ℕ) → Naming e ws s p n → p < 192
  inside n x = subst Inside x.here (known_inside (item_at e ws x.place))

pub has_all : (e : Edition) (ws : List ℕ) (s : Side) (n : ℕ) (set : List Bool) → length set ≡ 192
    → ((p : ℕ) → p < 192 → get_or set p false ≡ names e ws s p n) → Has e ws s n set
has_all e ws s n set long h = record {
  tells = h;
  only = λ p t. ⊎_elim (λ l. only e ws s p n (sym (h p l) ∙ t)) (λ l. absurd (false≢true (sym (get_or_past set p false (omega arith)) ∙ t))) (cases_lt p 192);
  all = λ p x. h p (inside e ws s p n x) ∙ all e ws s p n x;
}
