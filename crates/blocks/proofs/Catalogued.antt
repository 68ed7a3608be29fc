-- Pins and cells of every meaning are the catalogue's.
use Rattle.std.proofs.Common.{◌≡◌, refl}
use Rattle.catalogue.specs.Blocks.{pins_of, cells_of}
use Rattle.catalogue.specs.declared.Block.{Block}
use Rattle.catalogue.specs.declared.Block.TheVariants.{Esv, Moa, RisingEdge, Ctud, Muldi, Zuwd, Spbm}
use Rattle.blocks.specs.Kinds.{meaning_of}

pub pins_are : (k : Block) → (meaning_of k).pins ≡ pins_of k
pins_are Esv = refl
pins_are Moa = refl
pins_are RisingEdge = refl
pins_are Ctud = refl
pins_are Muldi = refl
pins_are Zuwd = refl
pins_are Spbm = refl

pub count_is : (k : Block) → (meaning_of k).count ≡ cells_of k
count_is Esv = refl
count_is Moa = refl
count_is RisingEdge = refl
count_is Ctud = refl
count_is Muldi = refl
count_is Zuwd = refl
count_is Spbm = refl
