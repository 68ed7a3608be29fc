-- The eleven kinds of operands: number, letters, and what an operand of the kind holds.
use Rattle.std.specs.Prelude.{◌≡◌, ℕ, Bool, cond, List, Some, None, codes, Option, Result, ◌==◌, ok_or}
use Rattle.operand.specs.declared.kind.Kind.{Kind}
use Rattle.operand.specs.declared.kind.Kind.TheVariants.{Input, Output, Marker, Step, Constant, InputWord, OutputWord, MarkerWord, ConstantWord, MarkerDouble, ConstantDouble}
use Rattle.operand.specs.declared.kind.UnknownKind.{UnknownKind}
use Rattle.operand.specs.declared.kind.Size.{Size}
use Rattle.operand.specs.declared.kind.Size.TheVariants.{Bit, Word, Double}

abbrev pub number_of : Kind → ℕ
number_of Input = 0
number_of Output = 1
number_of Marker = 2
number_of Step = 3
number_of Constant = 4
number_of InputWord = 5
number_of OutputWord = 6
number_of MarkerWord = 7
number_of ConstantWord = 8
number_of MarkerDouble = 9
number_of ConstantDouble = 10

-- the kind with a number, if there is one
abbrev pub kind_numbered : ℕ → Option Kind
kind_numbered n =
    cond (n == 0) (Some Input) (
    cond (n == 1) (Some Output) (
    cond (n == 2) (Some Marker) (
    cond (n == 3) (Some Step) (
    cond (n == 4) (Some Constant) (
    cond (n == 5) (Some InputWord) (
    cond (n == 6) (Some OutputWord) (
    cond (n == 7) (Some MarkerWord) (
    cond (n == 8) (Some ConstantWord) (
    cond (n == 9) (Some MarkerDouble) (
    cond (n == 10) (Some ConstantDouble) (
    None)))))))))))

-- the kind with this number, or the number where no kind has it
abbrev pub IsKindNumbered : ℕ → Result Kind UnknownKind → Type 0
IsKindNumbered n r = r ≡ ok_or (kind_numbered n) (record { 0 = n })

abbrev pub letters_of : Kind → List ℕ
letters_of Input = codes "E"
letters_of Output = codes "A"
letters_of Marker = codes "M"
letters_of Step = codes "S"
letters_of Constant = codes "K"
letters_of InputWord = codes "EW"
letters_of OutputWord = codes "AW"
letters_of MarkerWord = codes "MW"
letters_of ConstantWord = codes "KW"
letters_of MarkerDouble = codes "MD"
letters_of ConstantDouble = codes "KD"

abbrev pub size_of : Kind → Size
size_of Input = Bit
size_of Output = Bit
size_of Marker = Bit
size_of Step = Bit
size_of Constant = Bit
size_of InputWord = Word
size_of OutputWord = Word
size_of MarkerWord = Word
size_of ConstantWord = Word
size_of MarkerDouble = Double
size_of ConstantDouble = Double

abbrev pub same_kind : Kind → Kind → Bool
same_kind a b = number_of a == number_of b
