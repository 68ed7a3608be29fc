-- What holds of every item of a list.
use Rattle.std.specs.Prelude.{List, [], ◌∷◌}
use Rattle.item.specs.declared.item.Item.{Item}

-- of each item by itself
abbrev pub Each : (Item → Type 0) → List Item → Type 0
Each P [] = Unit {0}
Each P (x ∷ xs) = P x × Each P xs

-- of each item with those behind it
abbrev pub Everywhere : (Item → List Item → Type 0) → List Item → Type 0
Everywhere P [] = Unit {0}
Everywhere P (x ∷ xs) = P x xs × Everywhere P xs
