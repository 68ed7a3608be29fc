-- What a token that fits was read as.
use Rattle.std.proofs.Common.{◌≡◌, ℕ, Some, None, Ok, Err, Option, refl, ap, arith}
use Rattle.follow.specs.declared.number.Misfit.{Misfit}
use Rattle.follow.specs.Fits.{fitting}

pub fitted : {X : Type 0} (place : ℕ) (o : Option X) (x : X) → Ok x ≡ fitting place o → o ≡ Some x
fitted place None x h = let z : ◌≡◌ {A = ℕ} 0 1 = cc in absurd (omega arith)
fitted place (Some y) x h = cc

pub unfitted : {X : Type 0} (place : ℕ) (o : Option X) (m : Misfit) → Err m ≡ fitting place o → (o ≡ None) × (place ≡ m.place)
unfitted place None m h = let e : record { place = place } ≡ m = cc in (refl, ap (λ (x : Misfit). x.place) e)
unfitted place (Some y) m h = let z : ◌≡◌ {A = ℕ} 0 1 = cc in absurd (omega arith)
