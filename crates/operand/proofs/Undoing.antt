-- Codes and operands undo each other.
use Rattle.std.proofs.Common.{◌≡◌, ℕ, ◌+◌, ◌*◌, ◌/◌, ◌%◌, ◌≤◌, Bool, true, false, cond, ◌&&◌, leb, List, [], ◌∷◌, Some, None, Option, sym, refl, ap, ◌∙◌, subst, inl, inr, arith}
use Rattle.std.proofs.lemmas.Bool.{and_parts, and_from, or_cases, leb-true, le-leb, cond-true, both_ways}
use Rattle.std.proofs.lemmas.Bool.Decides.{nat_tests}
use Rattle.operand.specs.declared.kind.Kind.{Kind}
use Rattle.operand.specs.declared.kind.Kind.TheVariants.{Input, Output, Marker, Step, Constant, InputWord, OutputWord, MarkerWord, ConstantWord, MarkerDouble, ConstantDouble}
use Rattle.operand.specs.declared.edition.Edition.{Edition}
use Rattle.operand.specs.declared.edition.Edition.TheVariants.{Series90}
use Rattle.operand.specs.declared.edition.Range.{Range}
use Rattle.operand.specs.declared.operand.Operand.{Operand}
use Rattle.operand.specs.Kinds.{number_of, kind_numbered, same_kind}
use Rattle.operand.specs.Ranges.{ranges_of, range_holds, any_holds, lawful_range, all_lawful}
use Rattle.operand.specs.Codes.{place_of, code_of, in_range, operand_at, decoded, decoded_kind, Decodes}

pub table_lawful : (e : Edition) → all_lawful (ranges_of e) ≡ true
table_lawful Series90 = refl

-- the rule of the table, at each place that it has
below : (rs : List Range) (k : Kind) (place : ℕ) → all_lawful rs ≡ true → any_holds rs k place ≡ true → place ≤ 4095
below [] k place l h = absurd (both_ways _ refl h)
below (r ∷ rs) k place l h =
    let parts = and_parts (lawful_range r) (all_lawful rs) l in
    elim (or_cases (range_holds r k place) (any_holds rs k place) h) [
      | inl here ↦
          let end = (and_parts (leb r.first r.last) (leb r.last 4095) parts.0).1 in
          let inside = (and_parts (leb r.first place) (leb place r.last) (and_parts (same_kind r.kind k) _ here).1).1 in
          omega (arith, leb-true r.last 4095 end, leb-true place r.last inside)
      | inr there ↦ below rs k place parts.1 there
    ]

kind_again : (k : Kind) → kind_numbered (number_of k) ≡ Some k
kind_again Input = refl
kind_again Output = refl
kind_again Marker = refl
kind_again Step = refl
kind_again Constant = refl
kind_again InputWord = refl
kind_again OutputWord = refl
kind_again MarkerWord = refl
kind_again ConstantWord = refl
kind_again MarkerDouble = refl
kind_again ConstantDouble = refl

kind_back : (n : ℕ) (k : Kind) → kind_numbered n ≡ Some k → number_of k ≡ n
kind_back n k h = grind (arith, nat_tests)

-- an operand that the edition has is decoded from its code
pub undone : (e : Edition) (o : Operand) → in_range e o ≡ true → decoded e (code_of o) ≡ Some o
undone e o h =
    let parts = and_parts (leb o.channel 15) (any_holds (ranges_of e) o.kind (place_of o)) h in
    let channel : o.channel ≤ 15 = leb-true o.channel 15 parts.0 in
    let place : place_of o ≤ 4095 = below (ranges_of e) o.kind (place_of o) (table_lawful e) parts.1 in
    let group : o.group ≤ 255 = omega arith in
    let n : code_of o / 4096 ≡ number_of o.kind = omega arith in
    let p : code_of o % 4096 ≡ place_of o = omega arith in
    let g : place_of o / 16 ≡ o.group = omega arith in
    let c : place_of o % 16 ≡ o.channel = omega arith in
    let there : leb o.group 255 && (leb o.channel 15 && any_holds (ranges_of e) o.kind (place_of o)) ≡ true = and_from _ _ (le-leb o.group 255 group) h in
    (λ i. decoded_kind e (p i) (kind_numbered (n i)))
    ∙ ap (decoded_kind e (place_of o)) (kind_again o.kind)
    ∙ (λ i. operand_at e o.kind (g i) (c i))
    ∙ cond-true _ _ _ there

some_part : {X : Type 0} (b : Bool) (x y : X) → cond b (Some x) None ≡ Some y → (b ≡ true) × (x ≡ y)
some_part true x y h = (refl, cc)
some_part false x y h = absurd (grind arith)

-- an operand that a code is decoded to is one that the edition has, and has that code
found_right : (e : Edition) (code : ℕ) (k : Kind) (o : Operand) → number_of k ≡ code / 4096 → operand_at e k (code % 4096 / 16) (code % 4096 % 16) ≡ Some o → (in_range e o ≡ true) × (code_of o ≡ code)
found_right e code k o n h =
    let g : ℕ = code % 4096 / 16 in
    let c : ℕ = code % 4096 % 16 in
    let made : Operand = record { kind = k; group = g; channel = c } in
    let parts = some_part (leb g 255 && (leb c 15 && any_holds (ranges_of e) k (16 * g + c))) made o h in
    let inside : in_range e made ≡ true = (and_parts (leb g 255) (leb c 15 && any_holds (ranges_of e) k (16 * g + c)) parts.0).1 in
    let same : code_of made ≡ code = omega arith in
    subst (λ (x : Operand). (in_range e x ≡ true) × (code_of x ≡ code)) parts.1 (inside, same)

-- decoding answers an operand exactly for the codes of those that the edition has
pub decoded_right : (e : Edition) (code : ℕ) (r : Option Operand) → r ≡ decoded e code → Decodes e code r
decoded_right e code None h = λ o i c. let again = undone e o i in let z : ◌≡◌ {A = ℕ} 0 1 = cc in omega arith
decoded_right e code (Some o) h = by_kind (kind_numbered (code / 4096)) refl (sym h)
  where
    by_kind : (k : Option Kind) → kind_numbered (code / 4096) ≡ k → decoded_kind e (code % 4096) k ≡ Some o → (in_range e o ≡ true) × (code_of o ≡ code)
    by_kind None n d = let z : ◌≡◌ {A = ℕ} 0 1 = cc in absurd (omega arith)
    by_kind (Some k) n d = found_right e code k o (kind_back (code / 4096) k n) d
