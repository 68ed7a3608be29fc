-- Bits as numbers, and tests with known parts.
use Rattle.std.proofs.Common.{◌≡◌, Bool, true, false, cond, ◌&&◌, refl}
use Rattle.blocks.specs.Pins.{on, bit}

pub on_bit : (b : Bool) → on (bit b) ≡ b
on_bit true = refl
on_bit false = refl

pub cond_both : {X : Type 0} (a b : Bool) (x y : X) → a ≡ true → b ≡ true → cond (a && b) x y ≡ x
cond_both a b x y p q = λ i. cond (p i && q i) x y

pub cond_second : {X : Type 0} (a b : Bool) (x y : X) → a ≡ true → b ≡ false → cond (a && b) x y ≡ y
cond_second a b x y p q = λ i. cond (p i && q i) x y
