use Rattle.std.proofs.Common.{◌≡◌, ◌*◌, ◌≤◌}
use Rattle.marks.specs.Cells.{cells_before}
use Rattle.marks.proofs.cells.count_cells.Given as goal

abbrev pub invariant-loop-place : goal.invariant-loop-place
invariant-loop-place l = record {
  sum : l.cells ≡ cells_before l.items.edition l.items.words.now l.place;
  few : l.cells ≤ 3 * l.place;
}
