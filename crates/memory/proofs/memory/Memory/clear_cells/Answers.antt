use Rattle.std.proofs.Common.{◌≡◌, sym, subst}
use Rattle.store.specs.declared.store.Store.{Store}
use Rattle.memory.specs.Laws.{ClearsCells}
use Rattle.memory.specs.Writings.{cells_cleared}
use Rattle.memory.proofs.Loaded.{cells_law}
use Rattle.memory.proofs.Wrapped.{held_of}
use Rattle.memory.proofs.memory.Memory.clear_cells.Goals as goal

pub returns : goal.returns
unfolding cells_cleared
returns c =
    let m : Store = c.args.self.now.store in
    let is : c.empty_cells.new.self.store ≡ cells_cleared m = c.empty_cells.ensures in
    record { value = is; law = subst (λ (n : Store). ClearsCells m n) (sym is) (cells_law m (held_of c.args.self.now)) }
