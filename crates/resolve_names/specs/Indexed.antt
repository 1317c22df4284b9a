-- Declarations of which each name is found at its first place, and from there at each next one.
use Rattle.std.specs.Prelude.{◌≡◌, ℕ, ◌+◌, ◌≤◌, if◌then◌else◌, List, [], ◌∷◌, drop, length, Option, Some, None, slice_get}
use Rattle.std.specs.Str.{bytes_eq}
use Rattle.resolve_names.specs.declared.table.Declared.{Declared}

-- the place of the first declaration of the name, where the first one of all has place n
abbrev pub first_place : List ℕ → ℕ → List Declared → Option ℕ
first_place name n [] = None
first_place name n (d ∷ ds) = if bytes_eq name d.name then Some n else first_place name (n + 1) ds

-- from place n on, each declaration has the place of the next one of its name
pub record IsChained (ds : List Declared) (n : ℕ) (next : List (Option ℕ)) : Type 0 where
  pub every : length next ≡ length ds
  pub each : (k : ℕ) (d : Declared) → n ≤ k → slice_get ds k ≡ Some d → slice_get next k ≡ Some (first_place d.name (k + 1) (drop (k + 1) ds))

-- from place n on, each name is found at its first place, and from there at each next one
pub record IsIndexed (ds : List Declared) (n : ℕ) (find : List ℕ → Option ℕ) (next : List (Option ℕ)) : Type 0 where
  pub first : (name : List ℕ) → find name ≡ first_place name n (drop n ds)
  pub chained : IsChained ds n next
