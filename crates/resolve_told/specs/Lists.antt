-- Two lists whose items stand in a relation, one by one.
use Rattle.std.specs.Prelude.{◌≡◌, ℕ, ◌<◌, List, Some, length, slice_get}

-- the lists are equally long, and at each place the item of the one stands in the relation to that of the other
pub record OneByOne {X Y : Type 0} (R : ℕ → X → Y → Type 0) (xs : List X) (ys : List Y) : Type 0 where
  pub every : length xs ≡ length ys
  pub each : (n : ℕ) (x : X) (y : Y) → slice_get xs n ≡ Some x → slice_get ys n ≡ Some y → R n x y

-- the same of the first k places
abbrev pub EachBefore : {X Y : Type 0} (R : ℕ → X → Y → Type 0) → ℕ → List X → List Y → Type 0
EachBefore {X} {Y} R k xs ys = (n : ℕ) (x : X) (y : Y) → n < k → slice_get xs n ≡ Some x → slice_get ys n ≡ Some y → R n x y
