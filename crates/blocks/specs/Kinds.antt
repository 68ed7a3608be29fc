-- Which meaning a kind has. What stands above cites these and opens none of them.
use Rattle.catalogue.specs.declared.Block.{Block}
use Rattle.catalogue.specs.declared.Block.TheVariants.{Esv, Moa, RisingEdge, Ctud, Muldi, Zuwd, Spbm}
use Rattle.block.specs.Meaning.{Meaning}
use Rattle.blocks.specs.Esv.{esv}
use Rattle.blocks.specs.Moa.{moa}
use Rattle.blocks.specs.RisingEdge.{rising_edge}
use Rattle.blocks.specs.Ctud.{ctud}
use Rattle.blocks.specs.Muldi.{muldi}
use Rattle.blocks.specs.Zuwd.{zuwd}
use Rattle.blocks.specs.Spbm.{spbm}

abbrev pub meaning_of : Block → Meaning
meaning_of Esv = esv
meaning_of Moa = moa
meaning_of RisingEdge = rising_edge
meaning_of Ctud = ctud
meaning_of Muldi = muldi
meaning_of Zuwd = zuwd
meaning_of Spbm = spbm
