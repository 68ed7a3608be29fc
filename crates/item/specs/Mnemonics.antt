-- The words that begin an item in a text, each with the number of its items.
use Rattle.std.specs.Prelude.{◌≡◌, ℕ, cond, List, Some, None, codes, Option, Result, ◌==◌, ok_or}
use Rattle.item.specs.declared.mnemonic.Mnemonic.{Mnemonic}
use Rattle.item.specs.declared.mnemonic.Mnemonic.TheVariants.{Nop, Start, Open, Close, Operator, Compare, Assign, EndIf, Call, Direct, Mark, End}
use Rattle.item.specs.declared.mnemonic.UnknownMnemonic.{UnknownMnemonic}
use Rattle.item.specs.declared.mnemonic.Turn.TheVariants as Turn
use Rattle.item.specs.declared.mnemonic.Operator.TheVariants as Op
use Rattle.item.specs.declared.mnemonic.Comparison.TheVariants as Than
use Rattle.item.specs.declared.mnemonic.Form.TheVariants as Form

abbrev pub number_of : Mnemonic → ℕ
number_of Nop = 0
number_of (Start Turn.Plain) = 1
number_of (Start Turn.Not) = 2
number_of (Start Turn.Minus) = 3
number_of (Open Turn.Plain) = 4
number_of (Open Turn.Not) = 5
number_of (Open Turn.Minus) = 6
number_of Close = 7
number_of (Operator Op.And) = 10
number_of (Operator Op.AndNot) = 11
number_of (Operator Op.Or) = 12
number_of (Operator Op.OrNot) = 13
number_of (Operator Op.Add) = 14
number_of (Operator Op.Subtract) = 15
number_of (Operator Op.Multiply) = 16
number_of (Operator Op.MultiplyMinus) = 17
number_of (Operator Op.Divide) = 18
number_of (Operator Op.DivideMinus) = 19
number_of (Compare Than.Greater) = 20
number_of (Compare Than.Less) = 21
number_of (Compare Than.AtLeast) = 22
number_of (Compare Than.Equal) = 23
number_of (Compare Than.Unequal) = 24
number_of (Compare Than.AtMost) = 25
number_of (Assign Form.Plain) = 30
number_of (Assign Form.Not) = 31
number_of (Assign Form.Minus) = 32
number_of (Assign Form.Set) = 33
number_of (Assign Form.Reset) = 34
number_of EndIf = 35
number_of Call = 40
number_of Direct = 43
number_of Mark = 50
number_of End = 51

-- the mnemonic of the items with a number, if they have one
abbrev pub mnemonic_numbered : ℕ → Option Mnemonic
mnemonic_numbered n =
    cond (n == 0) (Some Nop) (
    cond (n == 1) (Some (Start Turn.Plain)) (
    cond (n == 2) (Some (Start Turn.Not)) (
    cond (n == 3) (Some (Start Turn.Minus)) (
    cond (n == 4) (Some (Open Turn.Plain)) (
    cond (n == 5) (Some (Open Turn.Not)) (
    cond (n == 6) (Some (Open Turn.Minus)) (
    cond (n == 7) (Some Close) (
    cond (n == 10) (Some (Operator Op.And)) (
    cond (n == 11) (Some (Operator Op.AndNot)) (
    cond (n == 12) (Some (Operator Op.Or)) (
    cond (n == 13) (Some (Operator Op.OrNot)) (
    cond (n == 14) (Some (Operator Op.Add)) (
    cond (n == 15) (Some (Operator Op.Subtract)) (
    cond (n == 16) (Some (Operator Op.Multiply)) (
    cond (n == 17) (Some (Operator Op.MultiplyMinus)) (
    cond (n == 18) (Some (Operator Op.Divide)) (
    cond (n == 19) (Some (Operator Op.DivideMinus)) (
    cond (n == 20) (Some (Compare Than.Greater)) (
    cond (n == 21) (Some (Compare Than.Less)) (
    cond (n == 22) (Some (Compare Than.AtLeast)) (
    cond (n == 23) (Some (Compare Than.Equal)) (
    cond (n == 24) (Some (Compare Than.Unequal)) (
    cond (n == 25) (Some (Compare Than.AtMost)) (
    cond (n == 30) (Some (Assign Form.Plain)) (
    cond (n == 31) (Some (Assign Form.Not)) (
    cond (n == 32) (Some (Assign Form.Minus)) (
    cond (n == 33) (Some (Assign Form.Set)) (
    cond (n == 34) (Some (Assign Form.Reset)) (
    cond (n == 35) (Some EndIf) (
    cond (n == 40) (Some Call) (
    cond (n == 43) (Some Direct) (
    cond (n == 50) (Some Mark) (
    cond (n == 51) (Some End) (
    None))))))))))))))))))))))))))))))))))

-- the mnemonic with this number, or the number where no mnemonic has it
abbrev pub IsMnemonicNumbered : ℕ → Result Mnemonic UnknownMnemonic → Type 0
IsMnemonicNumbered n r = r ≡ ok_or (mnemonic_numbered n) (record { 0 = n })

abbrev pub name_of : Mnemonic → List ℕ
name_of Nop = codes "NOP"
name_of (Start Turn.Plain) = codes "!"
name_of (Start Turn.Not) = codes "!N"
name_of (Start Turn.Minus) = codes "!-"
name_of (Open Turn.Plain) = codes "("
name_of (Open Turn.Not) = codes "(N"
name_of (Open Turn.Minus) = codes "(-"
name_of Close = codes ")"
name_of (Operator Op.And) = codes "&"
name_of (Operator Op.AndNot) = codes "&N"
name_of (Operator Op.Or) = codes "/"
name_of (Operator Op.OrNot) = codes "/N"
name_of (Operator Op.Add) = codes "+"
name_of (Operator Op.Subtract) = codes "-"
name_of (Operator Op.Multiply) = codes "*"
name_of (Operator Op.MultiplyMinus) = codes "*-"
name_of (Operator Op.Divide) = codes ":"
name_of (Operator Op.DivideMinus) = codes ":-"
name_of (Compare Than.Greater) = codes ">"
name_of (Compare Than.Less) = codes "<"
name_of (Compare Than.AtLeast) = codes ">="
name_of (Compare Than.Equal) = codes "=?"
name_of (Compare Than.Unequal) = codes "<>"
name_of (Compare Than.AtMost) = codes "<="
name_of (Assign Form.Plain) = codes "="
name_of (Assign Form.Not) = codes "=N"
name_of (Assign Form.Minus) = codes "=-"
name_of (Assign Form.Set) = codes "=S"
name_of (Assign Form.Reset) = codes "=R"
name_of EndIf = codes "=PE"
name_of Call = codes "!BA"
name_of Direct = codes "#"
name_of Mark = codes "MA"
name_of End = codes "!PE"
