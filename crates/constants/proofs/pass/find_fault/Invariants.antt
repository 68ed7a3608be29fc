use Rattle.std.proofs.Common.{◌≡◌, None}
use Rattle.std.specs.Iterator.Adapters.{enumerate_source, enumerate_count}
use Rattle.constants.specs.Decoded.{constants_of}
use Rattle.constants.specs.Lawful.{constant_fault}
use Rattle.constants.proofs.pass.find_fault.Given as goal

-- the constants that are left, and the place of the first of them
abbrev pub invariant-loop-place : goal.invariant-loop-place
invariant-loop-place l =
    let rest = enumerate_source l.place-iterator in
    constant_fault l.last (constants_of rest.edition rest.words.now) (enumerate_count l.place-iterator) ≡ constant_fault None (constants_of l.constants.edition l.constants.words.now) 0
