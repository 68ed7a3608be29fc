-- Question 7: brackets are at most fifteen deep.
use Rattle.std.specs.Prelude.{ℕ, ◌+◌, ◌≤◌, List, [], ◌∷◌, take}
use Rattle.item.specs.declared.item.Item.{Item}
use Rattle.item.specs.declared.item.Item.TheVariants.{Nop, Start, Open, Close, Operand, Operator, Compare, Assign, EndIf, Call, Kind, Pin, Direct, Mark, End}

abbrev pub opening : Item → ℕ
opening Nop = 0
opening (Start t) = 0
opening (Open t) = 1
opening Close = 0
opening (Operand o) = 0
opening (Operator o) = 0
opening (Compare c) = 0
opening (Assign f o) = 0
opening EndIf = 0
opening (Call n) = 0
opening (Kind b) = 0
opening (Pin o) = 0
opening (Direct w) = 0
opening (Mark m) = 0
opening End = 0

abbrev pub closing : Item → ℕ
closing Nop = 0
closing (Start t) = 0
closing (Open t) = 0
closing Close = 1
closing (Operand o) = 0
closing (Operator o) = 0
closing (Compare c) = 0
closing (Assign f o) = 0
closing EndIf = 0
closing (Call n) = 0
closing (Kind b) = 0
closing (Pin o) = 0
closing (Direct w) = 0
closing (Mark m) = 0
closing End = 0

-- how many brackets the items open
unfoldable pub opened : List Item → ℕ
opened [] = 0
opened (x ∷ xs) = opening x + opened xs

-- how many they close
unfoldable pub closed : List Item → ℕ
closed [] = 0
closed (x ∷ xs) = closing x + closed xs

-- up to every place at most fifteen more brackets were opened than closed
abbrev pub Shallow : List Item → Type 0
Shallow xs = (k : ℕ) → opened (take k xs) ≤ closed (take k xs) + 15
