-- What a list is: sentences, block calls, marks and NOPs, then one !PE.
use Rattle.std.specs.Prelude.{◌≡◌, ℕ, zero, suc, ◌<◌, ◌≤◌, List, [], ◌∷◌, ◌++◌, length, take, Some, None, Option}
use Rattle.catalogue.specs.declared.Block.{Block}
use Rattle.item.specs.declared.mnemonic.Comparison.{Comparison}
use Rattle.item.specs.declared.mnemonic.Form.{Form}
use Rattle.item.specs.declared.mnemonic.Turn.{Turn}
use Rattle.operand.specs.declared.operand.Operand.{Operand as Place}
use Rattle.item.specs.declared.mnemonic.Operator.{Operator as Sign}
use Rattle.item.specs.declared.item.Item.{Item}
use Rattle.item.specs.declared.item.Item.TheVariants.{Nop, Start, Open, Close, Operand, Operator, Compare, Assign, EndIf, Call, Kind, Pin, Direct, Mark, End}
use Rattle.grammar.specs.Grammar.{pin_count}

-- Each part of a list is told by two lists of items: what it begins, and what is left behind it.

-- any number of NOPs
pub data Nops : List Item → List Item → Type 0 where
  here : {xs : List Item} → Nops xs xs
  nop : {xs ys : List Item} → Nops xs ys → Nops (Nop ∷ xs) ys

mutual
  -- an operand; or an opening bracket, a term with further terms, and the closing bracket
  pub data IsTerm : List Item → List Item → Type 0 where
    operand : {xs : List Item} (o : Place) → IsTerm (Operand o ∷ xs) xs
    bracket : {xs ys zs : List Item} (t : Turn) → IsTerm xs ys → Further ys (Close ∷ zs) → IsTerm (Open t ∷ xs) zs

  -- further terms, each behind an operator
  pub data Further : List Item → List Item → Type 0 where
    none : {xs : List Item} → Further xs xs
    term : {xs ys zs us : List Item} (o : Sign) → Nops xs (Operator o ∷ ys) → IsTerm ys zs → Further zs us → Further xs us

-- a term with further terms, or two terms and a comparison between them
pub data Value : List Item → List Item → Type 0 where
  terms : {xs ys zs : List Item} → IsTerm xs ys → Further ys zs → Value xs zs
  compared : {xs ys zs us : List Item} (c : Comparison) → IsTerm xs ys → Nops ys (Compare c ∷ zs) → IsTerm zs us → Value xs us

-- one or more assignments, =PE only last
pub data Assignments : List Item → List Item → Type 0 where
  last : {xs ys : List Item} (f : Form) (o : Place) → Nops xs (Assign f o ∷ ys) → Assignments xs ys
  end_if : {xs ys : List Item} → Nops xs (EndIf ∷ ys) → Assignments xs ys
  another : {xs ys zs : List Item} (f : Form) (o : Place) → Nops xs (Assign f o ∷ ys) → Assignments ys zs → Assignments xs zs

-- so many pins
pub data IsPins : ℕ → List Item → List Item → Type 0 where
  none : {xs : List Item} → IsPins zero xs xs
  pin : {n : ℕ} {xs ys : List Item} (o : Place) → IsPins n xs ys → IsPins (suc n) (Pin o ∷ xs) ys
  direct : {n : ℕ} {xs ys : List Item} (w : ℕ) → IsPins n xs ys → IsPins (suc n) (Direct w ∷ xs) ys

-- sentences, block calls, marks and NOPs, then one !PE
pub data IsList : List Item → Type 0 where
  nop : {xs : List Item} → IsList xs → IsList (Nop ∷ xs)
  mark : {xs : List Item} (m : ℕ) → IsList xs → IsList (Mark m ∷ xs)
  sentence : {xs ys zs : List Item} (t : Turn) → Value xs ys → Assignments ys zs → IsList zs → IsList (Start t ∷ xs)
  call : {xs ys : List Item} (j : Option ℕ) (k : Block) → IsPins (pin_count k) xs ys → IsList ys → IsList (Call j ∷ Kind k ∷ xs)
  end : IsList (End ∷ [])

-- a list can begin with the items
abbrev pub Begins : List Item → Type 0
Begins xs = (rest : List Item) × IsList (xs ++ rest)

-- what question 6 answers: the items are a list; or p is the first place with which they begin none, the end where they stop too early
abbrev pub Judged : List Item → Option ℕ → Type 0
Judged xs None = IsList xs
Judged xs (Some p) = (p ≤ length xs) × Begins (take p xs) × (p < length xs → Begins (take (suc p) xs) → ⊥) × (p ≡ length xs → IsList xs → ⊥)
