use Rattle.std.proofs.Common.{◌∙◌, rules}
use Rattle.std.proofs.lemmas.Iterator.{YieldsList-from_slice, YieldsList-from_map}
use Rattle.std.proofs.lemmas.Iterator.Consumers.{sum_by_from_yields_List}
use Rattle.item.specs.Items.{item_cells}
use Rattle.image.proofs.Words.{cells_by}
use Rattle.image.proofs.write.List.cells.Goals as goal

pub returns : goal.returns
returns c =
    let items = c.args.self.items.now in
    let sum = sum_by_from_yields_List item_cells items _ c.sum.result c.sum.ensures.ran (YieldsList-from_map _ item_cells (YieldsList-from_slice items cc) c.map.ensures.closure (λ x r q k. search rules)) in
    sum ∙ cells_by items
