-- What each kind tells is lawful for its pins.
use Rattle.std.specs.Prelude.{◌≡◌, ℕ, Bool, true, false, ◌&&◌, List, ℤ, pos, ◌*ℤ◌, int_le, refl}
use Rattle.std.proofs.lemmas.Bool.{and_from}
use Rattle.number.specs.Limits.{lawful}
use Rattle.number.specs.Operations.{cut}
use Rattle.number.specs.declared.limit.Width.TheVariants.{Word, Double}
use Rattle.number.proofs.Lawful.{limited_lawful}
use Rattle.operand.specs.declared.kind.Size.TheVariants.{Bit}
use Rattle.catalogue.specs.Blocks.{pins_of}
use Rattle.catalogue.specs.declared.Block.{Block}
use Rattle.catalogue.specs.declared.Block.TheVariants.{Esv, Moa, RisingEdge, Ctud, Muldi, Zuwd, Spbm}
use Rattle.block.specs.Meaning.{Meaning, may_hold, outputs_fit}
use Rattle.block.specs.Windows.{window_of, worked_at}
use Rattle.blocks.specs.Pins.{value_at, bit_at, rises_at, word_at, bit}
use Rattle.blocks.specs.Esv.{esv, esv_gives}
use Rattle.blocks.specs.Moa.{moa, moa_gives}
use Rattle.blocks.specs.RisingEdge.{rising_edge, edge_gives}
use Rattle.blocks.specs.Ctud.{ctud, ctud_gives, counter_value}
use Rattle.blocks.specs.Muldi.{muldi, muldi_gives}
use Rattle.blocks.specs.Zuwd.{zuwd, zuwd_gives}
use Rattle.blocks.specs.Spbm.{spbm, spbm_gives}
use Rattle.blocks.specs.Kinds.{meaning_of}
use Rattle.blocks.specs.Counting.{counter_lawful}

abbrev Fits : Meaning → Type 0
Fits m = (inputs cells : List ℤ) (ms : ℕ) → outputs_fit m.pins (m.gives inputs cells ms).worked.outputs ≡ true

bit_holds : (b : Bool) → may_hold Bit (bit b) ≡ true
bit_holds true = refl
bit_holds false = refl

-- the one output of a block
only : (b : Bool) → b ≡ true → b && true ≡ true
only b h = and_from b true h refl

-- two bits and a word
three : (a b : Bool) (cv : ℤ) → lawful Word cv ≡ true → may_hold Bit (bit a) && (may_hold Bit (bit b) && (lawful Word cv && true)) ≡ true
three a b cv h = and_from (may_hold Bit (bit a)) _ (bit_holds a) (and_from (may_hold Bit (bit b)) _ (bit_holds b) (only (lawful Word cv) h))

pub esv_fits : Fits esv
unfolding esv_gives
esv_fits inputs cells ms = only _ (bit_holds _)

pub moa_fits : Fits moa
unfolding moa_gives
moa_fits inputs cells ms = only _ (bit_holds _)

pub edge_fits : Fits rising_edge
unfolding edge_gives
edge_fits inputs cells ms = only _ (bit_holds _)

pub ctud_fits : Fits ctud
unfolding ctud_gives
ctud_fits inputs cells ms =
    let cv : ℤ = counter_value inputs cells in
    let within = counter_lawful (bit_at inputs 2) (bit_at inputs 3) (rises_at inputs cells 0) (rises_at inputs cells 1) (value_at inputs 4) (value_at cells 2) in
    three (int_le (word_at inputs 4) cv) (int_le cv (pos 0)) cv within

pub muldi_fits : Fits muldi
unfolding muldi_gives
muldi_fits inputs cells ms = only _ (limited_lawful Word (cut (word_at inputs 0 *ℤ word_at inputs 1) (word_at inputs 2)))

pub zuwd_fits : Fits zuwd
unfolding zuwd_gives
zuwd_fits inputs cells ms = only _ (limited_lawful Double (value_at inputs 0))

pub spbm_fits : Fits spbm
unfolding spbm_gives
spbm_fits inputs cells ms = refl

pub told_fits : (k : Block) (inputs cells : List ℤ) (ms : ℕ) → outputs_fit (pins_of k) ((meaning_of k).gives inputs cells ms).worked.outputs ≡ true
told_fits Esv = esv_fits
told_fits Moa = moa_fits
told_fits RisingEdge = edge_fits
told_fits Ctud = ctud_fits
told_fits Muldi = muldi_fits
told_fits Zuwd = zuwd_fits
told_fits Spbm = spbm_fits

pub worked_fits : (k : Block) (inputs history : List ℤ) (first ms : ℕ) → outputs_fit (pins_of k) (worked_at (meaning_of k) inputs history first ms).outputs ≡ true
unfolding worked_at
worked_fits k inputs history first ms = told_fits k inputs (window_of history first (meaning_of k).count) ms
