use Rattle.std.proofs.Common.{◌+◌, ◌*◌, get_or, sym, refl, ◌∙◌}
use Rattle.marks.specs.Cells.{cells_asked}
use Rattle.marks.proofs.Numbers.{unless, no_cells}
use Rattle.marks.proofs.cells.cells_at.Goals as goal

pub returns-then-number-ne-KIND-clause-value : goal.returns-then-number-ne-KIND-clause-value
returns-then-number-ne-KIND-clause-value c =
    let argument = get_or c.args.items.words.now (2 * c.args.place + 1) 0 in
    sym (unless cells_asked 0 41 refl no_cells c.args.items.edition _ argument (λ q. c.if-number-ne-KIND.true (c.requires.1 ∙ q)))
