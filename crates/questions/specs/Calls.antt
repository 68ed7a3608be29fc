-- Question 10: behind a block kind stand pins that fit it.
use Rattle.std.specs.Prelude.{◌≡◌, Bool, true, false, List, [], ◌∷◌}
use Rattle.catalogue.specs.declared.Pin.{Pin as PinKind}
use Rattle.catalogue.specs.Blocks.{pins_of}
use Rattle.item.specs.declared.item.Item.{Item}
use Rattle.item.specs.declared.item.Item.TheVariants.{Nop, Start, Open, Close, Operand, Operator, Compare, Assign, EndIf, Call, Kind, Pin, Direct, Mark, End}
use Rattle.fitting.specs.Pins.{operand_fits, direct_fits}

-- an operand of the pin's size, at an output writable and no step; directly only a mark, 0 to 999
abbrev pub takes : PinKind → Item → Bool
takes p Nop = false
takes p (Start t) = false
takes p (Open t) = false
takes p Close = false
takes p (Operand o) = false
takes p (Operator o) = false
takes p (Compare c) = false
takes p (Assign f o) = false
takes p EndIf = false
takes p (Call n) = false
takes p (Kind b) = false
takes p (Pin o) = operand_fits p o
takes p (Direct w) = direct_fits p w
takes p (Mark m) = false
takes p End = false

-- the items stand for the pins one by one
abbrev pub FitPins : List PinKind → List Item → Type 0
FitPins [] xs = Unit {0}
FitPins (p ∷ ps) [] = ⊥
FitPins (p ∷ ps) (x ∷ xs) = (takes p x ≡ true) × FitPins ps xs

-- where a block kind is named, its pins follow
abbrev pub Pinned : Item → List Item → Type 0
Pinned Nop xs = Unit {0}
Pinned (Start t) xs = Unit {0}
Pinned (Open t) xs = Unit {0}
Pinned Close xs = Unit {0}
Pinned (Operand o) xs = Unit {0}
Pinned (Operator o) xs = Unit {0}
Pinned (Compare c) xs = Unit {0}
Pinned (Assign f o) xs = Unit {0}
Pinned EndIf xs = Unit {0}
Pinned (Call n) xs = Unit {0}
Pinned (Kind b) xs = FitPins (pins_of b) xs
Pinned (Pin o) xs = Unit {0}
Pinned (Direct w) xs = Unit {0}
Pinned (Mark m) xs = Unit {0}
Pinned End xs = Unit {0}
