use Rattle.std.proofs.Common.{ap, w32, SFits, rules}
use Rattle.std.specs.Fmt.{signed_decimal}
use Rattle.std.proofs.lemmas.Int.{to_z-of_z}
use Rattle.lay.proofs.Joins.{then, puts_as}
use Rattle.script.proofs.ConstantScript.put_on.Goals as goal

pub returns : goal.returns
returns c =
    let f : SFits w32 c.args.self.value = search rules in
    then c.put_operand.ensures (then c.put_text.ensures (puts_as (ap signed_decimal (to_z-of_z w32 c.args.self.value f)) c.put_number.ensures))
