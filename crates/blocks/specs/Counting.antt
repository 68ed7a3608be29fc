-- A counter stays within the lawful words.
use Rattle.std.specs.Prelude.{◌≡◌, Bool, true, false, cond, ℤ, pos, negsuc, refl}
use Rattle.std.proofs.Common.{arith}
use Rattle.std.proofs.lemmas.Int.{ints}
use Rattle.std.proofs.lemmas.Bool.Decides.{nat_tests}
use Rattle.number.specs.Limits.{lawful, corrected}
use Rattle.number.specs.declared.limit.Width.TheVariants.{Word}
use Rattle.number.proofs.Lawful.{limited_lawful}
use Rattle.blocks.specs.Ctud.{counted}

counted_lawful : (up down : Bool) (cv : ℤ) → lawful Word cv ≡ true → lawful Word (counted up down cv) ≡ true
counted_lawful true true (pos n) h = grind (arith, nat_tests, ints)
counted_lawful true true (negsuc n) h = grind (arith, nat_tests, ints)
counted_lawful true false (pos n) h = grind (arith, nat_tests, ints)
counted_lawful true false (negsuc n) h = grind (arith, nat_tests, ints)
counted_lawful false true (pos n) h = grind (arith, nat_tests, ints)
counted_lawful false true (negsuc n) h = grind (arith, nat_tests, ints)
counted_lawful false false cv h = h

pub counter_lawful : (reset load up down : Bool) (pv cv : ℤ) → lawful Word (cond reset (pos 0) (cond load (corrected Word pv) (counted up down (corrected Word cv)))) ≡ true
counter_lawful true load up down pv cv = refl
counter_lawful false true up down pv cv = limited_lawful Word pv
counter_lawful false false up down pv cv = counted_lawful up down (corrected Word cv) (limited_lawful Word cv)
