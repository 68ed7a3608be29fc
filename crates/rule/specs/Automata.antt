-- A question over the items of a list, put to one item after another.
use Rattle.std.specs.Prelude.{ℕ, ◌+◌, Bool, true, false, cond, List, [], ◌∷◌, Some, None, Option}
use Rattle.item.specs.declared.item.Item.{Item}
use Rattle.item.specs.declared.item.Item.TheVariants.{Nop, Start, Open, Close, Operand, Operator, Compare, Assign, EndIf, Call, Kind, Pin, Direct, Mark, End}

-- where it begins, what an item leads to (or is at fault), where the list may end
pub record Automaton (S : Type 0) : Type 0 where
  pub start : S
  pub step : S → Item → Option S
  pub ends : S → Bool

-- an unknown item is always at fault
abbrev pub stepped : {S : Type 0} → Automaton S → S → Option Item → Option S
stepped a s None = None
stepped a s (Some i) = a.step s i

-- the place p where there is no next state, else what follows from it
abbrev pub fault_on : {S : Type 0} → ℕ → (S → Option ℕ) → Option S → Option ℕ
fault_on p rest None = Some p
fault_on p rest (Some t) = rest t

-- the place of the first item at fault, counted on from p; an early end is a fault behind the last item
unfoldable pub fault_from : {S : Type 0} → Automaton S → List (Option Item) → S → ℕ → Option ℕ
fault_from a [] s p = cond (a.ends s) None (Some p)
fault_from a (x ∷ xs) s p = fault_on p (λ t. fault_from a xs t (p + 1)) (stepped a s x)

abbrev pub first_fault : {S : Type 0} → Automaton S → List (Option Item) → Option ℕ
first_fault a xs = fault_from a xs a.start 0

abbrev pub then : {S : Type 0} → (S → Option S) → Option S → Option S
then f None = None
then f (Some s) = f s

-- the state behind the items, if none of them is at fault
unfoldable pub reached : {S : Type 0} → Automaton S → List Item → S → Option S
reached a [] s = Some s
reached a (x ∷ xs) s = then (reached a xs) (a.step s x)

-- items that are all known
unfoldable pub known : List Item → List (Option Item)
known [] = []
known (x ∷ xs) = Some x ∷ known xs

-- items with which a sentence, a call, a mark or the end begins
abbrev pub opens : Item → Bool
opens Nop = false
opens (Start t) = true
opens (Open t) = false
opens Close = false
opens (Operand o) = false
opens (Operator o) = false
opens (Compare c) = false
opens (Assign f o) = false
opens EndIf = false
opens (Call n) = true
opens (Kind b) = false
opens (Pin o) = false
opens (Direct w) = false
opens (Mark m) = true
opens End = true
