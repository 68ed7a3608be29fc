-- The seven block kinds: number, name, pins in order, history cells.
use Rattle.std.specs.Prelude.{ℕ, cond, List, [], ◌∷◌, Some, None, codes, Option, ◌==◌}
use Rattle.operand.specs.declared.edition.Edition.{Edition}
use Rattle.operand.specs.declared.edition.Edition.TheVariants.{Series90}
use Rattle.operand.specs.declared.kind.Size.TheVariants.{Bit, Word, Double}
use Rattle.catalogue.specs.declared.Block.{Block}
use Rattle.catalogue.specs.declared.Block.TheVariants.{Esv, Moa, RisingEdge, Ctud, Muldi, Zuwd, Spbm}
use Rattle.catalogue.specs.declared.Pin.{Pin}
use Rattle.catalogue.specs.declared.Pin.TheVariants.{Input, Output, Mark}

abbrev pub number_of : Block → ℕ
number_of Esv = 1
number_of Moa = 3
number_of RisingEdge = 4
number_of Ctud = 5
number_of Muldi = 6
number_of Zuwd = 7
number_of Spbm = 8

-- the kinds that edition 90 knows
abbrev pub block_in_90 : ℕ → Option Block
block_in_90 n =
    cond (n == 1) (Some Esv) (
    cond (n == 3) (Some Moa) (
    cond (n == 4) (Some RisingEdge) (
    cond (n == 5) (Some Ctud) (
    cond (n == 6) (Some Muldi) (
    cond (n == 7) (Some Zuwd) (
    cond (n == 8) (Some Spbm) (
    None)))))))

abbrev pub block_numbered : Edition → ℕ → Option Block
block_numbered Series90 n = block_in_90 n

abbrev pub name_of : Block → List ℕ
name_of Esv = codes "ESV"
name_of Moa = codes "MOA"
name_of RisingEdge = codes "I+"
name_of Ctud = codes "CTUD"
name_of Muldi = codes "MULDI"
name_of Zuwd = codes "ZUWD"
name_of Spbm = codes "SPBM"

abbrev pub pins_of : Block → List Pin
pins_of Esv = Input Bit ∷ Input Double ∷ Output Bit ∷ []
pins_of Moa = Input Bit ∷ Input Double ∷ Output Bit ∷ []
pins_of RisingEdge = Input Bit ∷ Output Bit ∷ []
pins_of Ctud = Input Bit ∷ Input Bit ∷ Input Bit ∷ Input Bit ∷ Input Word ∷ Output Bit ∷ Output Bit ∷ Output Word ∷ []
pins_of Muldi = Input Word ∷ Input Word ∷ Input Word ∷ Output Word ∷ []
pins_of Zuwd = Input Double ∷ Output Double ∷ []
pins_of Spbm = Input Bit ∷ Mark ∷ []

abbrev pub cells_of : Block → ℕ
cells_of Esv = 2
cells_of Moa = 2
cells_of RisingEdge = 1
cells_of Ctud = 3
cells_of Muldi = 0
cells_of Zuwd = 0
cells_of Spbm = 0
