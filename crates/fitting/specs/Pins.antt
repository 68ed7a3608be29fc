-- Question 10: each pin fits what its block kind has there.
use Rattle.std.specs.Prelude.{ℕ, zero, suc, ◌+◌, Bool, true, false, cond, not, ◌&&◌, List, [], ◌∷◌, length, Some, None, Option, nat_lt}
use Rattle.operand.specs.declared.kind.Size.{Size}
use Rattle.operand.specs.declared.kind.Size.TheVariants.{Bit, Word, Double}
use Rattle.operand.specs.declared.operand.Operand.{Operand as Place}
use Rattle.operand.specs.Kinds.{size_of}
use Rattle.operand.specs.Codes.{may_write}
use Rattle.catalogue.specs.declared.Block.{Block}
use Rattle.catalogue.specs.declared.Pin.{Pin as PinKind}
use Rattle.catalogue.specs.declared.Pin.TheVariants as Takes
use Rattle.catalogue.specs.Blocks.{pins_of}
use Rattle.item.specs.declared.item.Item.{Item}
use Rattle.item.specs.declared.item.Item.TheVariants.{Nop, Start, Open, Close, Operand, Operator, Compare, Assign, EndIf, Call, Kind, Pin, Direct, Mark, End}
use Rattle.rule.specs.Automata.{Automaton}
use Rattle.fitting.specs.Steps.{is_step}
use Rattle.fitting.specs.declared.pins.Pins.{Pins}
use Rattle.fitting.specs.declared.pins.Pins.TheVariants.{Idle, At}

abbrev pub same_size : Size → Size → Bool
same_size Bit Bit = true
same_size Bit Word = false
same_size Bit Double = false
same_size Word Bit = false
same_size Word Word = true
same_size Word Double = false
same_size Double Bit = false
same_size Double Word = false
same_size Double Double = true

-- an operand at a pin: of the pin's size; at an output writable and no step
abbrev pub operand_fits : PinKind → Place → Bool
operand_fits (Takes.Input z) o = same_size z (size_of o.kind)
operand_fits (Takes.Output z) o = same_size z (size_of o.kind) && (may_write o && not (is_step o.kind))
operand_fits Takes.Mark o = false

-- a direct value: only a mark, 0 to 999
abbrev pub direct_fits : PinKind → ℕ → Bool
direct_fits (Takes.Input z) w = false
direct_fits (Takes.Output z) w = false
direct_fits Takes.Mark w = nat_lt w 1000

-- the pin with a number, if the kind has so many
abbrev pub nth_pin : List PinKind → ℕ → Option PinKind
nth_pin [] n = None
nth_pin (p ∷ ps) zero = Some p
nth_pin (p ∷ ps) (suc n) = nth_pin ps n

abbrev pub pin_of : Block → ℕ → Option PinKind
pin_of b n = nth_pin (pins_of b) n

-- behind the pin n
abbrev pub next_pin : Block → ℕ → Pins
next_pin b n = cond (nat_lt (n + 1) (length (pins_of b))) (At b (n + 1)) Idle

abbrev pub operand_at_pin : Option PinKind → Place → Bool
operand_at_pin None o = false
operand_at_pin (Some p) o = operand_fits p o

abbrev pub direct_at_pin : Option PinKind → ℕ → Bool
direct_at_pin None w = false
direct_at_pin (Some p) w = direct_fits p w

abbrev pub operand_step : Pins → Place → Option Pins
operand_step Idle o = None
operand_step (At b n) o = cond (operand_at_pin (pin_of b n) o) (Some (next_pin b n)) None

abbrev pub direct_step : Pins → ℕ → Option Pins
direct_step Idle w = None
direct_step (At b n) w = cond (direct_at_pin (pin_of b n) w) (Some (next_pin b n)) None

abbrev pub pin_step : Pins → Item → Option Pins
pin_step s Nop = Some Idle
pin_step s (Start t) = Some Idle
pin_step s (Open t) = Some Idle
pin_step s Close = Some Idle
pin_step s (Operand o) = Some Idle
pin_step s (Operator o) = Some Idle
pin_step s (Compare c) = Some Idle
pin_step s (Assign f o) = Some Idle
pin_step s EndIf = Some Idle
pin_step s (Call j) = Some Idle
pin_step s (Kind k) = Some (At k 0)
pin_step s (Pin o) = operand_step s o
pin_step s (Direct w) = direct_step s w
pin_step s (Mark m) = Some Idle
pin_step s End = Some Idle

abbrev pub pins : Automaton Pins
pins = record { start = Idle; step = pin_step; ends = λ _. true }
