-- Where a row holds only if another does.
use Rattle.std.specs.Prelude.{◌≡◌, ◌<◌, ◌&&◌, not, ℕ, Bool, List, length}
use Rattle.gate_trait.specs.declared.node.Node.{Node}
use Rattle.gate_temporal.specs.Rows.{row_value}

-- at each of so many places: not the first without the second
pub record IsImplied (old new : (ℕ → Bool) → Node → Bool) (f g : List Node) (count : ℕ) (row : List Node) : Type 0 where
  pub long : length row ≡ count
  pub values : (x : ℕ → Bool) (i : ℕ) → i < count → row_value (new x) row i ≡ not (row_value (old x) f i && not (row_value (old x) g i))
