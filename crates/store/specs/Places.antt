-- Several places of a list at once.
use Rattle.std.specs.Prelude.{ℕ, zero, suc, ◌+◌, ◌*◌, Bool, false, cond, List, slice_index_or, slice_set}
use Rattle.store.specs.Words.{bit_of}

-- x in n places from first on
unfoldable pub filled : {X : Type 0} → List X → ℕ → ℕ → X → List X
filled xs first zero x = xs
filled xs first (suc n) x = slice_set (filled xs first n x) (first + n) x

-- the lowest n bits of a word in n places from first on, bit 0 in the first
unfoldable pub spread : List Bool → ℕ → ℕ → ℕ → List Bool
spread xs first w zero = xs
spread xs first w (suc n) = slice_set (spread xs first w n) (first + n) (bit_of w n)

-- the word whose bits stand in n places from first on, bit 0 in the first
unfoldable pub gathered : List Bool → ℕ → ℕ → ℕ
gathered xs first zero = 0
gathered xs first (suc n) = cond (slice_index_or xs first false) 1 0 + 2 * gathered xs (suc first) n
