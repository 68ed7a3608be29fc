-- Each refusal of an image: the number of the question that got a no, and the place.
use Rattle.std.specs.Prelude.{ℕ}
use Rattle.told.specs.declared.Told.{Told}
use Rattle.view.specs.declared.OpenRefusal.{OpenRefusal}
use Rattle.view.specs.declared.OpenRefusal.TheVariants as View
use Rattle.checker.specs.declared.refusal.CheckRefusal.{CheckRefusal}
use Rattle.checker.specs.declared.refusal.CheckRefusal.TheVariants.{NoTrailer, NoEdition, NoFit, NoConstant, NoItem, NoList, TooDeep, NoType, NoTarget, NoPin, NoMark, NoCells}

abbrev pub no_to : ℕ → ℕ → Told
no_to question place = record { question = question; place = place }

-- a place that does not apply is 0
abbrev pub told_of : CheckRefusal → Told
told_of NoTrailer = no_to 1 0
told_of NoEdition = no_to 2 0
told_of NoFit = no_to 3 0
told_of (NoConstant p) = no_to 4 p
told_of (NoItem p) = no_to 5 p
told_of (NoList p) = no_to 6 p
told_of (TooDeep p) = no_to 7 p
told_of (NoType p) = no_to 8 p
told_of (NoTarget p) = no_to 9 p
told_of (NoPin p) = no_to 10 p
told_of (NoMark p) = no_to 11 p
told_of NoCells = no_to 12 0

-- the refusals of the view are refusals of the check
abbrev pub of_view : OpenRefusal → CheckRefusal
of_view View.NoTrailer = NoTrailer
of_view View.NoEdition = NoEdition
of_view View.NoFit = NoFit
