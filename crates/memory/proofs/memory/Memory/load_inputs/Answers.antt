use Rattle.std.proofs.Common.{◌≡◌, sym, subst}
use Rattle.store.specs.declared.store.Store.{Store}
use Rattle.memory.specs.Laws.{LoadsInputs}
use Rattle.memory.specs.Writings.{inputs_loaded}
use Rattle.memory.proofs.Loaded.{inputs_law}
use Rattle.memory.proofs.Wrapped.{held_of}
use Rattle.memory.proofs.memory.Memory.load_inputs.Goals as goal

pub returns : goal.returns
unfolding inputs_loaded
returns c =
    let m : Store = c.args.self.now.store in
    let is : c.put_inputs.new.self.store ≡ inputs_loaded m c.args.group c.args.word = c.put_inputs.ensures in
    record { value = is; law = subst (λ (n : Store). LoadsInputs m n c.args.group c.args.word) (sym is) (inputs_law m (held_of c.args.self.now) c.args.group c.args.word) }
