use Rattle.std.proofs.Common.{◌≡◌, sym, subst}
use Rattle.store.specs.declared.store.Store.{Store}
use Rattle.memory.specs.Laws.{Clears}
use Rattle.memory.specs.Writings.{cleared}
use Rattle.memory.proofs.Loaded.{cleared_law}
use Rattle.memory.proofs.Wrapped.{held_of}
use Rattle.memory.proofs.memory.Memory.clear.Goals as goal

pub returns : goal.returns
unfolding cleared
returns c =
    let m : Store = c.args.self.now.store in
    let is : c.empty_groups.new.self.store ≡ cleared m c.args.kind c.args.first c.args.last = c.empty_groups.ensures in
    record { value = is; law = subst (λ (n : Store). Clears m n c.args.kind c.args.first c.args.last) (sym is) (cleared_law m (held_of c.args.self.now) c.args.kind c.args.first c.args.last) }
