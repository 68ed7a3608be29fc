use Rattle.std.proofs.Common.{◌≡◌, ℤ, sym, ap, ◌∙◌, subst, w32}
use Rattle.std.proofs.lemmas.Int.{to_z-of_z}
use Rattle.operand.specs.Codes.{place_of}
use Rattle.store.specs.declared.store.Store.{Store}
use Rattle.store.specs.Changes.{stored_at}
use Rattle.memory.specs.Laws.{Stores}
use Rattle.memory.specs.Writings.{stored}
use Rattle.memory.proofs.Stored.{stores_law}
use Rattle.memory.proofs.Wrapped.{held_of}
use Rattle.memory.proofs.memory.Memory.store.Goals as goal

pub returns : goal.returns
unfolding stored
returns c =
    let m : Store = c.args.self.now.store in
    let is : c.put.new.self.store ≡ stored m c.args.operand c.args.value = c.put.ensures ∙ ap (λ (z : ℤ). stored_at m c.args.operand.kind (place_of c.args.operand) z) (to_z-of_z w32 c.args.value c.ranges.value) in
    record { value = is; law = subst (λ (n : Store). Stores m n c.args.operand c.args.value) (sym is) (stores_law m (held_of c.args.self.now) c.args.operand c.args.value) }
