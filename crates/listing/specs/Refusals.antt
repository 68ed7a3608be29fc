-- Each refusal of a listing: the number of the question that got a no, and the place.
use Rattle.told.specs.declared.Told.{Told}
use Rattle.checker.specs.declared.refusal.CheckRefusal.{CheckRefusal}
use Rattle.checker.specs.Refusals.{no_to}
use Rattle.checker.specs.Refusals as Check
use Rattle.listing.specs.declared.refusal.ListRefusal.{ListRefusal}
use Rattle.listing.specs.declared.refusal.ListRefusal.TheVariants.{NotListed, TooLong}

-- 1 to 5 as the check tells them; 22 does the listing fit the buffer?
abbrev pub told_of : ListRefusal → Told
told_of (NotListed q) = Check.told_of q
told_of TooLong = no_to 22 0

-- a refusal of the check's is one of the listing's
abbrev pub of_check : CheckRefusal → ListRefusal
of_check q = NotListed q
