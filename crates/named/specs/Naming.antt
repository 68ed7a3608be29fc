-- The point that an operand or an item names: an input by E and EW, an output by A and AW.
use Rattle.std.specs.Prelude.{ℕ, ◌+◌, cond, List, Some, None, Option, nat_lt}
use Rattle.operand.specs.declared.edition.Edition.{Edition}
use Rattle.operand.specs.declared.kind.Kind.{Kind as AnyKind}
use Rattle.operand.specs.declared.kind.Kind.TheVariants as Of
use Rattle.operand.specs.declared.operand.Operand.{Operand as AnyOperand}
use Rattle.operand.specs.Codes.{place_of}
use Rattle.item.specs.declared.item.Item.{Item}
use Rattle.item.specs.declared.item.Item.TheVariants.{Nop, Start, Open, Close, Operand, Operator, Compare, Assign, EndIf, Call, Kind, Pin, Direct, Mark, End}
use Rattle.decode.specs.Words.{item_at}
use Rattle.named.specs.declared.point.Side.{Side}
use Rattle.named.specs.declared.point.Side.TheVariants.{Input, Output}
use Rattle.named.specs.declared.point.NamedPoint.{NamedPoint}

abbrev pub at_side : Side → ℕ → Option NamedPoint
at_side side p = Some (record { side = side; point = p })

-- an operand by its kind, its group and its place, given what a group and what a place name
abbrev pub by_kind : (Side → ℕ → Option NamedPoint) → (Side → ℕ → Option NamedPoint) → AnyKind → ℕ → ℕ → Option NamedPoint
by_kind by-group by_place Of.Input group place = by-group Input group
by_kind by-group by_place Of.Output group place = by-group Output group
by_kind by-group by_place Of.Marker group place = None
by_kind by-group by_place Of.Step group place = None
by_kind by-group by_place Of.Constant group place = None
by_kind by-group by_place Of.InputWord group place = by_place Input place
by_kind by-group by_place Of.OutputWord group place = by_place Output place
by_kind by-group by_place Of.MarkerWord group place = None
by_kind by-group by_place Of.ConstantWord group place = None
by_kind by-group by_place Of.MarkerDouble group place = None
by_kind by-group by_place Of.ConstantDouble group place = None

-- points 0 to 63 are the groups of E and A
abbrev pub group_point : Side → ℕ → Option NamedPoint
group_point side group = cond (nat_lt group 64) (at_side side group) None

-- points 64 to 191 are the places of EW and AW
abbrev pub word_point : Side → ℕ → Option NamedPoint
word_point side place = cond (nat_lt place 128) (at_side side (64 + place)) None

abbrev pub operand_point : AnyOperand → Option NamedPoint
operand_point o = by_kind group_point word_point o.kind o.group (place_of o)

-- where the edition has the operand no limit is left to ask: it names its group, or 64 and its place
abbrev pub edition_point : AnyOperand → Option NamedPoint
edition_point o = by_kind at_side (λ side place. at_side side (64 + place)) o.kind o.group (place_of o)

-- an item names the point of its operand
abbrev pub item_point : Item → Option NamedPoint
item_point Nop = None
item_point (Start t) = None
item_point (Open t) = None
item_point Close = None
item_point (Operand o) = operand_point o
item_point (Operator o) = None
item_point (Compare c) = None
item_point (Assign f o) = operand_point o
item_point EndIf = None
item_point (Call n) = None
item_point (Kind b) = None
item_point (Pin o) = operand_point o
item_point (Direct w) = None
item_point (Mark m) = None
item_point End = None

-- an item that is not known names none
abbrev pub known_point : Option Item → Option NamedPoint
known_point None = None
known_point (Some i) = item_point i

-- the point that the item at a place of a list's words names
abbrev pub point_at : Edition → List ℕ → ℕ → Option NamedPoint
point_at e ws place = known_point (item_at e ws place)
