use Rattle.std.proofs.Common.{◌≡◌, ℤ, sym, ap, ◌∙◌, subst, w32}
use Rattle.std.proofs.lemmas.Int.{to_z-of_z}
use Rattle.operand.specs.Codes.{place_of}
use Rattle.store.specs.declared.store.Store.{Store}
use Rattle.store.specs.Changes.{constant_at}
use Rattle.memory.specs.Laws.{LoadsConstant}
use Rattle.memory.specs.Writings.{constant_loaded}
use Rattle.memory.proofs.Stored.{constant_law}
use Rattle.memory.proofs.Wrapped.{held_of}
use Rattle.memory.proofs.memory.Memory.load_constant.Goals as goal

pub returns : goal.returns
unfolding constant_loaded
returns c =
    let m : Store = c.args.self.now.store in
    let is : c.put_constant.new.self.store ≡ constant_loaded m c.args.operand c.args.value = c.put_constant.ensures ∙ ap (λ (z : ℤ). constant_at m c.args.operand.kind (place_of c.args.operand) z) (to_z-of_z w32 c.args.value c.ranges.value) in
    record { value = is; law = subst (λ (n : Store). LoadsConstant m n c.args.operand c.args.value) (sym is) (constant_law m (held_of c.args.self.now) c.args.operand c.args.value) }
