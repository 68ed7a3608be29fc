use Rattle.token.proofs.Commas.{comma_found}
use Rattle.token.proofs.token.split_at_comma.Goals as goal

pub returns : goal.returns
returns c = comma_found c.args.part.now c.in_ok-comma.comma c.in_ok-comma.ensures
