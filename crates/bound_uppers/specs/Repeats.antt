-- States by the numbers of the first ones that are the same.
use Rattle.std.specs.Prelude.{◌≡◌, ◌≢◌, ◌<◌, ◌≤◌, ◌+◌, ℕ, List, length, slice_get, slice_index}

-- among some items, this is the place of the first one that is the same as the one at a place
abbrev pub IsFirst : {X : Type 0} → List X → ℕ → ℕ → Type 0
IsFirst items place first = (first ≤ place) × (slice_get items first ≡ slice_get items place) × ((other : ℕ) → other < first → slice_get items other ≢ slice_get items place)

-- for each item the place of the first one that is the same
abbrev pub AreFirsts : {X : Type 0} → List X → List ℕ → Type 0
AreFirsts items firsts = (length firsts ≡ length items) × ((place : ℕ) → place < length items → IsFirst items place (slice_index firsts place))

-- from a place on, the numbers are the same so many places later, as far as there are numbers
abbrev pub Repeats : List ℕ → ℕ → ℕ → Type 0
Repeats numbers from period = (place : ℕ) → from ≤ place → place + period < length numbers → slice_index numbers place ≡ slice_index numbers (place + period)
