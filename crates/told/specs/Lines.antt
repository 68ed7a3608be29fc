-- The line that reports a refusal.
use Rattle.std.specs.Prelude.{ℕ, List, ◌++◌, codes, decimal}
use Rattle.told.specs.declared.Told.{Told}

abbrev pub refused_line : Told → List ℕ
refused_line t = codes "refused " ++ (decimal t.question ++ (codes " at " ++ decimal t.place))
