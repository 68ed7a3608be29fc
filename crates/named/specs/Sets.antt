-- The sets of named points.
use Rattle.std.specs.Prelude.{◌≡◌, ℕ, zero, suc, ◌<◌, Bool, true, false, ◌&&◌, ◌||◌, List, Some, None, Option, ◌==◌, slice_index_or}
use Rattle.operand.specs.declared.edition.Edition.{Edition}
use Rattle.named.specs.declared.point.Side.{Side}
use Rattle.named.specs.declared.point.Side.TheVariants.{Input, Output}
use Rattle.named.specs.declared.point.NamedPoint.{NamedPoint}
use Rattle.named.specs.Naming.{point_at}

abbrev pub same_side : Side → Side → Bool
same_side Input Input = true
same_side Input Output = false
same_side Output Input = false
same_side Output Output = true

-- whether what is named is that side of point p
abbrev pub is_point : Side → ℕ → Option NamedPoint → Bool
is_point side p None = false
is_point side p (Some n) = same_side n.side side && n.point == p

-- whether one of the first n items names that side of point p
unfoldable pub names : Edition → List ℕ → Side → ℕ → ℕ → Bool
names e ws side p zero = false
names e ws side p (suc n) = names e ws side p n || is_point side p (point_at e ws n)

-- one of the first n items names that side of point p
pub record Naming (e : Edition) (ws : List ℕ) (side : Side) (p n : ℕ) : Type 0 where
  pub place : ℕ
  pub within : place < n
  pub here : point_at e ws place ≡ Some (record { side = side; point = p })

-- a set has the points, up to 191, that one of the first n items names, and no others
pub record Has (e : Edition) (ws : List ℕ) (side : Side) (n : ℕ) (set : List Bool) : Type 0 where
  pub tells : (p : ℕ) → p < 192 → slice_index_or set p false ≡ names e ws side p n
  pub only : (p : ℕ) → slice_index_or set p false ≡ true → Naming e ws side p n
  pub all : (p : ℕ) → Naming e ws side p n → slice_index_or set p false ≡ true
