use Rattle.decode.proofs.Exact.{decoded_exactly}
use Rattle.decode.proofs.decode_item.Goals as goal

pub returns : goal.returns
returns c = record { value = c.item_of.ensures; exact = decoded_exactly c.args.edition c.args.number c.args.argument _ c.item_of.ensures }
