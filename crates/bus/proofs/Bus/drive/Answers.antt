use Rattle.bus.proofs.Looking.{put_by}
use Rattle.bus.proofs.Bus.drive.Goals as goal

pub returns : goal.returns
returns c =
    let x = put_by c.args.self.now.modules.now c.args.point c.args.word c.write.new.self.modules.now c.write.result c.write.ensures.records in
    record { records = x.records; after = x.after; rest = x.rest; lent = c.write.ensures.lent }
