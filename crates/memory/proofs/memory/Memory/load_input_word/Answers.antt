use Rattle.std.proofs.Common.{◌≡◌, sym, subst}
use Rattle.store.specs.declared.store.Store.{Store}
use Rattle.memory.specs.Laws.{LoadsInputWord}
use Rattle.memory.specs.Writings.{input_word_loaded}
use Rattle.memory.proofs.Loaded.{input_word_law}
use Rattle.memory.proofs.Wrapped.{held_of}
use Rattle.memory.proofs.memory.Memory.load_input_word.Goals as goal

pub returns : goal.returns
unfolding input_word_loaded
returns c =
    let m : Store = c.args.self.now.store in
    let is : c.put_input_word.new.self.store ≡ input_word_loaded m c.args.place c.args.word = c.put_input_word.ensures in
    record { value = is; law = subst (λ (n : Store). LoadsInputWord m n c.args.place c.args.word) (sym is) (input_word_law m (held_of c.args.self.now) c.args.place c.args.word) }
