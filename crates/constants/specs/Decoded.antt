-- The constant that three words stand for: operand code, low word, high word.
use Rattle.std.specs.Prelude.{ℕ, ◌+◌, ◌-◌, ◌*◌, cond, not, ◌&&◌, List, [], ◌∷◌, ℤ, pos, negsuc, Some, None, Option, ◌==◌, nat_lt}
use Rattle.operand.specs.declared.edition.Edition.{Edition}
use Rattle.operand.specs.declared.kind.Kind.{Kind}
use Rattle.operand.specs.declared.kind.Kind.TheVariants as Of
use Rattle.operand.specs.declared.operand.Operand.{Operand}
use Rattle.operand.specs.Codes.{decoded}
use Rattle.image.specs.declared.constant.Constant.{Constant}

-- the value of 16 bits in two's complement: -1 is negsuc 0
abbrev pub word_value : ℕ → ℤ
word_value b = cond (nat_lt b 32768) (pos b) (negsuc (65535 - b))

-- the value of 32 bits
abbrev pub double_value : ℕ → ℤ
double_value b = cond (nat_lt b 2147483648) (pos b) (negsuc (4294967295 - b))

-- a word: the high word is 0, and 8000h is no value
abbrev pub word_constant : Operand → ℕ → ℕ → Option Constant
word_constant o low high =
    cond (high == 0 && not (low == 32768)) (Some (record { operand = o; value = word_value low })) None

-- a double: 8000 0000h is no value
abbrev pub double_constant : Operand → ℕ → ℕ → Option Constant
double_constant o low high =
    cond (low == 0 && high == 32768) None (Some (record { operand = o; value = double_value (65536 * high + low) }))

abbrev pub by_kind : Kind → Operand → ℕ → ℕ → Option Constant
by_kind Of.Input o low high = None
by_kind Of.Output o low high = None
by_kind Of.Marker o low high = None
by_kind Of.Step o low high = None
by_kind Of.Constant o low high = None
by_kind Of.InputWord o low high = None
by_kind Of.OutputWord o low high = None
by_kind Of.MarkerWord o low high = None
by_kind Of.ConstantWord o low high = word_constant o low high
by_kind Of.MarkerDouble o low high = None
by_kind Of.ConstantDouble o low high = double_constant o low high

abbrev pub by_operand : Option Operand → ℕ → ℕ → Option Constant
by_operand None low high = None
by_operand (Some o) low high = by_kind o.kind o low high

abbrev pub constant_decoded : Edition → ℕ → ℕ → ℕ → Option Constant
constant_decoded e code low high = by_operand (decoded e code) low high

-- the constants that words stand for, three words each
unfoldable pub constants_of : Edition → List ℕ → List (Option Constant)
constants_of e [] = []
constants_of e (code ∷ []) = []
constants_of e (code ∷ low ∷ []) = []
constants_of e (code ∷ low ∷ high ∷ ws) = constant_decoded e code low high ∷ constants_of e ws
