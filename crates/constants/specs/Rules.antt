-- Which constants may stand behind a list, in which order, and with which values.
use Rattle.std.specs.Prelude.{ℕ, Bool, true, false, not, ◌&&◌, List, [], ◌∷◌, ℤ, pos, negsuc, Some, None, Option, nat_lt}
use Rattle.operand.specs.declared.kind.Kind.{Kind}
use Rattle.operand.specs.declared.kind.Kind.TheVariants as Of
use Rattle.operand.specs.declared.kind.Size.{Size}
use Rattle.operand.specs.declared.kind.Size.TheVariants.{Bit, Word, Double}
use Rattle.operand.specs.declared.operand.Operand.{Operand}
use Rattle.operand.specs.declared.edition.Range.{Range}
use Rattle.operand.specs.Ranges.{any_holds}
use Rattle.operand.specs.Codes.{place_of, code_of}

-- the code of the constant before; constants rise
abbrev pub above : Option Operand → ℕ → Bool
above None code = true
above (Some o) code = nat_lt (code_of o) code

-- KW 00,13 to 00,15 are reserved
abbrev pub reserved : List Range
reserved = record { kind = Of.ConstantWord; first = 13; last = 15 } ∷ []

-- a constant that may stand after the one before
abbrev pub constant_fits : Option Operand → Operand → Bool
constant_fits last o = above last (code_of o) && not (any_holds reserved o.kind (place_of o))

-- only KW and KD are constants
abbrev pub constant_kind : Kind → Bool
constant_kind Of.Input = false
constant_kind Of.Output = false
constant_kind Of.Marker = false
constant_kind Of.Step = false
constant_kind Of.Constant = false
constant_kind Of.InputWord = false
constant_kind Of.OutputWord = false
constant_kind Of.MarkerWord = false
constant_kind Of.ConstantWord = true
constant_kind Of.MarkerDouble = false
constant_kind Of.ConstantDouble = true

-- the lawful values of a size
abbrev pub least : Size → ℤ
least Bit = pos 0
least Word = negsuc 32766
least Double = negsuc 2147483646

abbrev pub most : Size → ℤ
most Bit = pos 1
most Word = pos 32767
most Double = pos 2147483647
