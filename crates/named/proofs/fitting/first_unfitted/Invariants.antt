use Rattle.std.proofs.Common.{◌≡◌}
use Rattle.std.specs.Iterator.Adapters.{enumerate_source, enumerate_count}
use Rattle.decode.specs.Words.{items_of, items_from}
use Rattle.named.specs.Fitting.{AllFit}
use Rattle.named.proofs.fitting.first_unfitted.Given as goal

abbrev pub invariant-loop-place : goal.invariant-loop-place
invariant-loop-place g l =
    let rest = enumerate_source l.place-iterator in
    record {
      walk : items_of rest.edition rest.words.now ≡ items_from l.items.edition l.items.words.now (enumerate_count l.place-iterator);
      fit : AllFit (g.P.Plant.meaning l.plant) l.items.edition l.items.words.now (enumerate_count l.place-iterator);
    }
