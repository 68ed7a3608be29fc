-- Question 11: each jump has its mark ahead.
use Rattle.std.specs.Prelude.{◌≡◌, ℕ, ◌⊎◌, List, [], ◌∷◌}
use Rattle.catalogue.specs.declared.Block.{Block}
use Rattle.catalogue.specs.declared.Block.TheVariants.{Esv, Moa, RisingEdge, Ctud, Muldi, Zuwd, Spbm}
use Rattle.item.specs.declared.item.Item.{Item}
use Rattle.item.specs.declared.item.Item.TheVariants.{Nop, Start, Open, Close, Operand, Operator, Compare, Assign, EndIf, Call, Kind, Pin, Direct, Mark, End}

-- a mark with the number is among the items
abbrev pub Ahead : ℕ → List Item → Type 0
Ahead m [] = ⊥
Ahead m (x ∷ xs) = (x ≡ Mark m) ⊎ Ahead m xs

-- the mark that stands as second pin is among the items behind the kind
abbrev pub SecondAhead : List Item → Type 0
SecondAhead xs = (m : ℕ) (x : Item) (ys : List Item) → xs ≡ x ∷ Direct m ∷ ys → Ahead m xs

abbrev pub BlockLed : Block → List Item → Type 0
BlockLed Esv xs = Unit {0}
BlockLed Moa xs = Unit {0}
BlockLed RisingEdge xs = Unit {0}
BlockLed Ctud xs = Unit {0}
BlockLed Muldi xs = Unit {0}
BlockLed Zuwd xs = Unit {0}
BlockLed Spbm xs = SecondAhead xs

abbrev pub Led : Item → List Item → Type 0
Led Nop xs = Unit {0}
Led (Start t) xs = Unit {0}
Led (Open t) xs = Unit {0}
Led Close xs = Unit {0}
Led (Operand o) xs = Unit {0}
Led (Operator o) xs = Unit {0}
Led (Compare c) xs = Unit {0}
Led (Assign f o) xs = Unit {0}
Led EndIf xs = Unit {0}
Led (Call n) xs = Unit {0}
Led (Kind b) xs = BlockLed b xs
Led (Pin o) xs = Unit {0}
Led (Direct w) xs = Unit {0}
Led (Mark m) xs = Unit {0}
Led End xs = Unit {0}
