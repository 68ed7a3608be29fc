use Rattle.std.proofs.Common.{refl}
use Rattle.blocks.specs.Esv.{esv_gives}
use Rattle.blocks.specs.Moa.{moa_gives}
use Rattle.blocks.specs.Ctud.{ctud_gives}
use Rattle.blocks.specs.Muldi.{muldi_gives}
use Rattle.block_laws.proofs.sums_hold.Goals as goal

pub returns : goal.returns
unfolding esv_gives moa_gives ctud_gives muldi_gives
returns c =
    record { the_largest_word = refl; cut_towards_0 = refl; by_0 = refl; minus_8000h = refl; left_to_right = refl; muldi = refl; esv = refl; moa = refl; ctud = refl }
