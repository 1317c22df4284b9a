-- How watches and marks change where marked clauses are detached.
use Rattle.std.specs.Prelude.{ℕ, ◌+◌, ◌*◌, ◌<◌, ◌≡◌, ◌≢◌, Bool, true, false, List, ◌⊎◌, length, slice_index, slice_index_or}

-- the second node of each marked clause is at the place of its first one, and no other node has another place
pub record IsUnwatched (marks : List Bool) (at at' : List ℕ) : Type 0 where
  pub size : length at' ≡ length at
  pub first : (i : ℕ) → slice_index at' (2 * i) ≡ slice_index at (2 * i)
  pub second : (i : ℕ) → 2 * i + 1 < length at → slice_index_or marks i false ≡ true → slice_index at' (2 * i + 1) ≡ slice_index at (2 * i)
  pub others : (i : ℕ) → slice_index_or marks i false ≡ false → slice_index at' (2 * i + 1) ≡ slice_index at (2 * i + 1)

-- the marked clauses whose nodes are at two places, and no others, are attached no more
pub record AreCleared (marks : List Bool) (at : List ℕ) (attached attached' : List Bool) : Type 0 where
  pub size : length attached' ≡ length attached
  pub kept : (i : ℕ) → slice_index_or attached i false ≡ true → (slice_index_or attached' i false ≡ true) ⊎ ((slice_index_or marks i false ≡ true) × (slice_index at (2 * i) ≢ slice_index at (2 * i + 1)))
  pub only : (i : ℕ) → slice_index_or attached' i false ≡ true → (slice_index_or attached i false ≡ true) × ((slice_index_or marks i false ≡ false) ⊎ (slice_index at (2 * i) ≡ slice_index at (2 * i + 1)))
