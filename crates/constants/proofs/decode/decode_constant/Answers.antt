use Rattle.std.proofs.Common.{arith}
use Rattle.constants.proofs.Exact.{decoded_exactly}
use Rattle.constants.proofs.decode.decode_constant.Goals as goal

pub returns : goal.returns
returns c =
    record { value = c.constant_of.ensures; exact = decoded_exactly c.args.edition c.args.code c.args.low c.args.high (omega arith) (omega arith) _ c.constant_of.ensures }
