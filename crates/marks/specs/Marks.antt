-- The next mark with a number.
use Rattle.std.specs.Prelude.{◌≡◌, ℕ, ◌/◌, ◌<◌, ◌≤◌, Bool, false, List, length, Some, None, Option, ◌==◌}
use Rattle.operand.specs.declared.edition.Edition.{Edition}
use Rattle.item.specs.declared.item.Item.{Item}
use Rattle.item.specs.declared.item.Item.TheVariants.{Nop, Start, Open, Close, Operand, Operator, Compare, Assign, EndIf, Call, Kind, Pin, Direct, Mark, End}
use Rattle.decode.specs.Words.{item_at}
use Rattle.marks.specs.Places.{first_place}

-- a mark with the number m
abbrev pub marks : ℕ → Item → Bool
marks m Nop = false
marks m (Start t) = false
marks m (Open t) = false
marks m Close = false
marks m (Operand o) = false
marks m (Operator o) = false
marks m (Compare c) = false
marks m (Assign f o) = false
marks m EndIf = false
marks m (Call n) = false
marks m (Kind b) = false
marks m (Pin o) = false
marks m (Direct w) = false
marks m (Mark n) = n == m
marks m End = false

abbrev pub is_mark : ℕ → Option Item → Bool
is_mark m None = false
is_mark m (Some i) = marks m i

-- the item at a place is the mark with the number m
abbrev pub mark_at : Edition → List ℕ → ℕ → ℕ → Bool
mark_at e ws m p = is_mark m (item_at e ws p)

-- the next mark with the number m from place p on, if there is one
abbrev pub next_mark : Edition → List ℕ → ℕ → ℕ → Option ℕ
next_mark e ws p m = first_place (mark_at e ws m) p (length ws / 2)

abbrev pub Marked : Edition → List ℕ → ℕ → ℕ → Type 0
Marked e ws m p = item_at e ws p ≡ Some (Mark m)

-- the same in words: it stands there, and none before it; or there is none ahead
abbrev pub Next : Edition → List ℕ → ℕ → ℕ → Option ℕ → Type 0
Next e ws p m (Some q) = (p ≤ q) × (q < length ws / 2) × Marked e ws m q × ((k : ℕ) → p ≤ k → k < q → Marked e ws m k → ⊥)
Next e ws p m None = (k : ℕ) → p ≤ k → k < length ws / 2 → Marked e ws m k → ⊥
