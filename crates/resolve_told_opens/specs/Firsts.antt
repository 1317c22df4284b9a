-- What the test notes: by the number of each sig the first open so far that gives it to an `exactly` parameter.
use Rattle.std.specs.Prelude.{◌≡◌, ℕ, List, Option, Some, None, option_map, slice_get}
use Rattle.core_tree.specs.declared.model.Origin.{Origin}
use Rattle.resolve_told_opens.specs.Told.{Gift, first_open}

-- what was noted of sig s stays, and else it is the first of these
abbrev pub or_first : ℕ → List Gift → Option Origin → Option Origin
or_first s gs (Some o) = Some o
or_first s gs None = first_open s gs

-- these gifts were added in turn
pub record AreAdded (gs : List Gift) (old new : List (Option Origin)) : Type 0 where
  pub each : (s : ℕ) → slice_get new s ≡ option_map (or_first s gs) (slice_get old s)
