use Rattle.std.proofs.Common.{◌≡◌, ℕ, ◌/◌, ◌<◌, ◌≤◌, false, get_or, length}
use Rattle.decode.specs.Words.{items_of, items_from}
use Rattle.named.specs.Sets.{names}
use Rattle.named.proofs.sets.set_of.Given as goal

abbrev pub invariant-loop-item : goal.invariant-loop-item
invariant-loop-item l =
    let n = length l.yielded in
    record {
      long : length l.set ≡ 192;
      within : n ≤ length l.items.words.now / 2;
      walk : items_of l.item-iterator.edition l.item-iterator.words.now ≡ items_from l.items.edition l.items.words.now n;
      set : (p : ℕ) → p < 192 → get_or l.set p false ≡ names l.items.edition l.items.words.now l.side p n;
    }
