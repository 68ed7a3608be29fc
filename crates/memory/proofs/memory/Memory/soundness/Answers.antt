use Rattle.memory.proofs.Kept.{stays_sound, laws_hold}
use Rattle.memory.proofs.Sounds.{sound_from}
use Rattle.memory.proofs.Wrapped.{held_of}
use Rattle.memory.proofs.memory.Memory.soundness.Goals as goal

pub returns : goal.returns
returns c = record { sound = sound_from c.args.self.now.store (held_of c.args.self.now); stays = stays_sound; laws = laws_hold }
