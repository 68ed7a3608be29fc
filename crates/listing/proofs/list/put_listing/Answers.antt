use Rattle.lay.proofs.Joins.{then}
use Rattle.listing.proofs.list.put_listing.Goals as goal

pub returns : goal.returns
returns c =
    then (simp (c.items.ensures.edition, c.items.ensures.words) at c.put_items.ensures) (simp (c.constants.ensures.edition, c.constants.ensures.words) at c.put_constants.ensures)
