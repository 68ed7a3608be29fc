use Rattle.std.proofs.Common.{◌≡◌}
use Rattle.block.proofs.Put.{put_below}
use Rattle.block.proofs.window.Window.put.Given as goal

abbrev pub invariant-loop-k : goal.invariant-loop-k
invariant-loop-k l = l.history ≡ put_below l.initial.history l.self.first l.self.count l.cells l.k
