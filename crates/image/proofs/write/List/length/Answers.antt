use Rattle.std.proofs.Common.{refl}
use Rattle.image.proofs.Words.{words_length}
use Rattle.image.proofs.write.List.length.Goals as goal

pub returns : goal.returns
returns c = record { count = refl; words = words_length c.args.self.edition _ _ }
