-- Question 7: the rule of depth and the count of brackets agree.
use Rattle.std.proofs.Common.{◌≡◌, ℕ, zero, suc, ◌+◌, ◌≤◌, List, [], ◌∷◌, take, Some, subst, arith}
use Rattle.std.proofs.lemmas.Bool.Decides.{nat_tests}
use Rattle.item.specs.declared.item.Item.{Item}
use Rattle.rule.specs.Automata.{reached}
use Rattle.grammar.specs.declared.automaton.Grammar.{Grammar}
use Rattle.grammar.specs.Grammar.{grammar, grammar_step, depth_of}
use Rattle.fitting.specs.declared.depth.Depth.{Depth}
use Rattle.fitting.specs.Depth.{depths, depth_step, deep}
use Rattle.questions.specs.Brackets.{opening, closing, opened, closed}
use Rattle.questions.proofs.Runs.{Through, first_step, through_more, through_none}

-- both count the same brackets
same_depth : (g h : Grammar) (x : Item) (d : Depth) → grammar_step g x ≡ Some h → depth_step (deep (depth_of g)) x ≡ Some d → d ≡ deep (depth_of h)
same_depth g h x d e f = grind (arith, nat_tests)

balance : (g h : Grammar) (x : Item) → grammar_step g x ≡ Some h → depth_of h + closing x ≡ depth_of g + opening x
balance g h x e = grind (arith, nat_tests)

at_most : (g h : Grammar) (x : Item) (d : Depth) → grammar_step g x ≡ Some h → depth_step (deep (depth_of g)) x ≡ Some d → depth_of g ≤ 15 → depth_of h ≤ 15
at_most g h x d e f l = grind (arith, nat_tests)

let_in : (g h : Grammar) (x : Item) → grammar_step g x ≡ Some h → depth_of g + opening x ≤ closing x + 15 → depth_step (deep (depth_of g)) x ≡ Some (deep (depth_of h))
let_in g h x e l = grind (arith, nat_tests)

abbrev ShallowFrom : ℕ → List Item → Type 0
ShallowFrom d xs = (k : ℕ) → d + opened (take k xs) ≤ closed (take k xs) + 15

pub sound : (xs : List Item) (g t : Grammar) (u : Depth) → reached grammar xs g ≡ Some t → reached depths xs (deep (depth_of g)) ≡ Some u → depth_of g ≤ 15 → ShallowFrom (depth_of g) xs
unfolding opened closed
sound [] g t u r s l zero = omega arith
sound [] g t u r s l (suc k) = omega arith
sound (x ∷ xs) g t u r s l zero = omega arith
sound (x ∷ xs) g t u r s l (suc k) =
    let (h, e, q) = first_step grammar x xs g t r in
    let (d, f, v) = first_step depths x xs (deep (depth_of g)) u s in
    let next = sound xs h t u q (subst (λ (b : Depth). reached depths xs b ≡ Some u) (same_depth g h x d e f) v) (at_most g h x d e f l) k in
    let b = balance g h x e in
    omega arith

pub complete : (xs : List Item) (g t : Grammar) → reached grammar xs g ≡ Some t → ShallowFrom (depth_of g) xs → Through depths xs (deep (depth_of g))
unfolding opened closed
complete [] g t r s = through_none depths (deep (depth_of g))
complete (x ∷ xs) g t r s =
    let (h, e, q) = first_step grammar x xs g t r in
    let b = balance g h x e in
    let one : depth_of g + (opening x + opened (take 0 xs)) ≤ closing x + closed (take 0 xs) + 15 = s 1 in
    through_more depths x xs (deep (depth_of g)) (deep (depth_of h)) (let_in g h x e (omega arith)) (complete xs h t q (λ k. let m = s (suc k) in omega arith))
