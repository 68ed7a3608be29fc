use Rattle.std.proofs.Common.{rules}
use Rattle.memory.proofs.Held.{Held, held_word}
use Rattle.memory.proofs.Wrapped.{held_of, facts}
use Rattle.memory.proofs.memory.Memory.put_input_word.Goals as goal

pub invariant_of-self : goal.invariant_of-self
invariant_of-self c =
    let h : Held c.args.self.now.store = held_of c.args.self.now in
    facts c.load_word.ensures (search (rules, held_word))
