-- Sums of sizes that stand at places.
use Rattle.std.specs.Prelude.{◌≡◌, ◌<◌, ℕ, if◌then◌else◌, nat_lt, eqb, List, length, slice_index, sum_by}
use Rattle.bound_uppers.specs.declared.sums.Weight.{Weight}

-- how much stands at a place, and before it
abbrev pub at_place : ℕ → List Weight → ℕ
at_place place = sum_by (λ (w : Weight). if eqb w.place place then w.size else 0)

abbrev pub before_place : ℕ → List Weight → ℕ
before_place place = sum_by (λ (w : Weight). if nat_lt w.place place then w.size else 0)

-- for each of so many places how much stands at it, and before it
abbrev pub AreSizes : ℕ → List Weight → List ℕ → Type 0
AreSizes count ws numbers = (length numbers ≡ count) × ((place : ℕ) → place < count → slice_index numbers place ≡ at_place place ws)

abbrev pub AreStarts : ℕ → List Weight → List ℕ → Type 0
AreStarts count ws numbers = (length numbers ≡ count) × ((place : ℕ) → place < count → slice_index numbers place ≡ before_place place ws)
