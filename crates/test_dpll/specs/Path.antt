-- What a path keeps of its steps and values.
use Rattle.std.specs.Prelude.{◌≡◌, ℕ, ◌+◌, ◌<◌, ◌≤◌, ◌^◌, ℤ, nat_abs, List, None, length, slice_index_or, reverse}
use Rattle.test_dpll.specs.declared.path.Step.{Step}
use Rattle.test_dpll.specs.declared.path.Path.{Path}
use Rattle.test_dpll.specs.Steps.{value_by, IsApart}

-- the steps, the latest first
abbrev pub steps_of : Path → List Step
steps_of path = reverse path.steps.items

-- each variable has the value that the steps give it, and no step is of a variable that had a value
pub record IsPath (path : Path) : Type 0 where
  pub values : (place : ℕ) → place < length path.values.items → slice_index_or path.values.items place None ≡ value_by (steps_of path) (place + 1)
  pub apart : IsApart (length path.values.items) (steps_of path)
  pub small : length path.values.items < 2 ^ 63

-- a literal of a variable that has no value
pub record IsFree (path : Path) (literal : ℤ) : Type 0 where
  pub nonzero : 0 < nat_abs literal
  pub within : nat_abs literal ≤ length path.values.items
  pub free : value_by (steps_of path) (nat_abs literal) ≡ None
