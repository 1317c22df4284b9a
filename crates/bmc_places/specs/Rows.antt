-- What rows that are made of others say.
use Rattle.std.specs.Prelude.{◌≡◌, ◌<◌, ◌+◌, ◌&&◌, not, ℕ, Bool, List, length}
use Rattle.gate_trait.specs.declared.node.Node.{Node}
use Rattle.gate_temporal.specs.Rows.{row_value}

-- at each place: neither without the other
pub record IsIff (old new : (ℕ → Bool) → Node → Bool) (f g row : List Node) : Type 0 where
  pub long : length row ≡ length f
  pub values : (x : ℕ → Bool) (i : ℕ) → i < length f → row_value (new x) row i ≡ (not (row_value (old x) f i && not (row_value (old x) g i)) && not (row_value (old x) g i && not (row_value (old x) f i)))

-- at each place: the second where the first is true, else the third
pub record IsElse (old new : (ℕ → Bool) → Node → Bool) (f g h row : List Node) : Type 0 where
  pub long : length row ≡ length f
  pub values : (x : ℕ → Bool) (i : ℕ) → i < length f → row_value (new x) row i ≡ (not (row_value (old x) f i && not (row_value (old x) g i)) && not (not (row_value (old x) f i) && not (row_value (old x) h i)))

-- at each place: the first, and the second where the third is true, whose places begin at `from`
pub record IsHeld (old new : (ℕ → Bool) → Node → Bool) (f g h : List Node) (from : ℕ) (row : List Node) : Type 0 where
  pub long : length row ≡ length f
  pub values : (x : ℕ → Bool) (i : ℕ) → i < length f → row_value (new x) row i ≡ (row_value (old x) f i && not (not (row_value (old x) g i) && row_value (old x) h (from + i)))

-- at each place: the first, and the second, whose places begin at `from`
pub record IsBoth (old new : (ℕ → Bool) → Node → Bool) (f h : List Node) (from : ℕ) (row : List Node) : Type 0 where
  pub long : length row ≡ length f
  pub values : (x : ℕ → Bool) (i : ℕ) → i < length f → row_value (new x) row i ≡ (row_value (old x) f i && row_value (old x) h (from + i))
