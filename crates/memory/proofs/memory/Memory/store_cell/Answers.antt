use Rattle.std.proofs.Common.{◌≡◌, ℤ, sym, ap, ◌∙◌, subst, w32}
use Rattle.std.proofs.lemmas.Int.{to_z-of_z}
use Rattle.store.specs.declared.store.Store.{Store}
use Rattle.store.specs.Changes.{cell_put}
use Rattle.memory.specs.Laws.{StoresCell}
use Rattle.memory.specs.Writings.{cell_stored}
use Rattle.memory.proofs.Stored.{cell_law}
use Rattle.memory.proofs.Wrapped.{held_of}
use Rattle.memory.proofs.memory.Memory.store_cell.Goals as goal

pub returns : goal.returns
unfolding cell_stored
returns c =
    let m : Store = c.args.self.now.store in
    let is : c.put_cell.new.self.store ≡ cell_stored m c.args.cell c.args.value = c.put_cell.ensures ∙ ap (λ (z : ℤ). cell_put m c.args.cell z) (to_z-of_z w32 c.args.value c.ranges.value) in
    record { value = is; law = subst (λ (n : Store). StoresCell m n c.args.cell c.args.value) (sym is) (cell_law m (held_of c.args.self.now) c.args.cell c.args.value) }
