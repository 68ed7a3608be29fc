-- Question 8: each sentence has one type, bits or words; behind a comparison its result is a bit.
use Rattle.std.specs.Prelude.{◌≡◌, Bool, true, false, cond, List, [], ◌∷◌, Some}
use Rattle.operand.specs.declared.kind.Size.{Size}
use Rattle.operand.specs.declared.kind.Size.TheVariants.{Bit, Word, Double}
use Rattle.operand.specs.Kinds.{size_of}
use Rattle.item.specs.declared.mnemonic.Turn.{Turn}
use Rattle.item.specs.declared.mnemonic.Operator.{Operator as Sign}
use Rattle.item.specs.declared.mnemonic.Operator.TheVariants.{And, AndNot, Or, OrNot, Add, Subtract, Multiply, MultiplyMinus, Divide, DivideMinus}
use Rattle.item.specs.declared.item.Item.{Item}
use Rattle.item.specs.declared.item.Item.TheVariants.{Nop, Start, Open, Close, Operand, Operator, Compare, Assign, EndIf, Call, Kind, Pin, Direct, Mark, End}
use Rattle.rule.specs.Automata.{opens}
use Rattle.fitting.specs.Pins.{same_size}
use Rattle.fitting.specs.Types.{stored, is_bit}

-- N turns bits, minus turns words; nothing turns a double
abbrev pub turns : Size → Turn → Bool
turns Bit Turn.Plain = true
turns Bit Turn.Not = true
turns Bit Turn.Minus = false
turns Word Turn.Plain = true
turns Word Turn.Not = false
turns Word Turn.Minus = true
turns Double t = false

-- what an operator joins
abbrev pub joined_size : Sign → Size
joined_size And = Bit
joined_size AndNot = Bit
joined_size Or = Bit
joined_size OrNot = Bit
joined_size Add = Word
joined_size Subtract = Word
joined_size Multiply = Word
joined_size MultiplyMinus = Word
joined_size Divide = Word
joined_size DivideMinus = Word

-- an item of a sentence whose terms have the type z, where its result has the type r
abbrev pub fits : Size → Size → Item → Bool
fits z r Nop = true
fits z r (Start t) = turns z t
fits z r (Open t) = turns z t
fits z r Close = true
fits z r (Operand o) = same_size z (size_of o.kind)
fits z r (Operator o) = same_size z (joined_size o)
fits z r (Compare c) = same_size z Word
fits z r (Assign f o) = stored (Some r) f (size_of o.kind)
fits z r EndIf = is_bit (Some r)
fits z r (Call n) = true
fits z r (Kind b) = true
fits z r (Pin o) = true
fits z r (Direct w) = true
fits z r (Mark m) = true
fits z r End = true

-- the result's type behind an item: a comparison gives a bit
abbrev pub behind : Size → Item → Size
behind r Nop = r
behind r (Start t) = r
behind r (Open t) = r
behind r Close = r
behind r (Operand o) = r
behind r (Operator o) = r
behind r (Compare c) = Bit
behind r (Assign f o) = r
behind r EndIf = r
behind r (Call n) = r
behind r (Kind b) = r
behind r (Pin o) = r
behind r (Direct w) = r
behind r (Mark m) = r
behind r End = r

unfoldable pub Fits : Size → Size → List Item → Type 0
Fits z r [] = Unit {0}
Fits z r (x ∷ xs) = (fits z r x ≡ true) × Fits z (behind r x) xs

-- the items up to the next start, call, mark or end
unfoldable pub sentence : List Item → List Item
sentence [] = []
sentence (x ∷ xs) = cond (opens x) [] (x ∷ sentence xs)

-- some type fits them all; the result's is that of the terms, until they are compared
abbrev pub OneType : List Item → Type 0
OneType xs = (z : Size) × Fits z z xs

-- where a sentence starts, its items have one type
abbrev pub Typed : Item → List Item → Type 0
Typed Nop xs = Unit {0}
Typed (Start t) xs = OneType (Start t ∷ sentence xs)
Typed (Open t) xs = Unit {0}
Typed Close xs = Unit {0}
Typed (Operand o) xs = Unit {0}
Typed (Operator o) xs = Unit {0}
Typed (Compare c) xs = Unit {0}
Typed (Assign f o) xs = Unit {0}
Typed EndIf xs = Unit {0}
Typed (Call n) xs = Unit {0}
Typed (Kind b) xs = Unit {0}
Typed (Pin o) xs = Unit {0}
Typed (Direct w) xs = Unit {0}
Typed (Mark m) xs = Unit {0}
Typed End xs = Unit {0}
