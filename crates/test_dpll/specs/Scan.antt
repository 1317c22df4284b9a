-- What the steps make of a clause, and of the clauses together.
use Rattle.std.specs.Prelude.{◌≡◌, ℕ, ◌-◌, ◌<◌, ℤ, nat_abs, Bool, List, IsTrue, IsSomeAnd, slice_get}
use Rattle.std.specs.List.{list_any}
use Rattle.sat_lrat.specs.declared.line.Rest.{Rest}
use Rattle.sat_lrat.specs.declared.line.Rest.TheVariants as rests
use Rattle.sat_lrat.specs.Step.{among, rest_of}
use Rattle.test_dpll.specs.declared.path.Path.{Path}
use Rattle.test_dpll.specs.declared.scan.Status.{Status}
use Rattle.test_dpll.specs.declared.scan.Status.TheVariants as is
use Rattle.test_dpll.specs.declared.scan.Found.{Found}
use Rattle.test_dpll.specs.declared.scan.Found.TheVariants as has
use Rattle.test_dpll.specs.Steps.{value_by, under, denial_of, is_true}
use Rattle.test_dpll.specs.Path.{steps_of, IsFree}

-- a literal that the steps make true
abbrev pub is_true_literal : Path → ℤ → Bool
is_true_literal path literal = is_true (under literal (value_by (steps_of path) (nat_abs literal)))

-- what a clause has beside the literals that the steps make false
abbrev pub rest_by : Path → List ℤ → Rest
rest_by path clause = rest_of (among (denial_of (steps_of path))) clause

-- the literals that were found without a value
abbrev pub rest_from : Status → Rest
rest_from is.True = rests.Nothing
rest_from is.False = rests.Nothing
rest_from (is.Unit literal) = rests.One literal
rest_from (is.Open literal) = rests.Several

-- the literal that was found has no value
abbrev pub IfFree : Path → Status → Type 0
IfFree path is.True = Unit {0}
IfFree path is.False = Unit {0}
IfFree path (is.Unit literal) = IsFree path literal
IfFree path (is.Open literal) = IsFree path literal

abbrev pub IsStatus : Path → List ℤ → Status → Type 0
IsStatus path clause is.True = IsTrue (list_any (is_true_literal path) clause)
IsStatus path clause is.False = rest_by path clause ≡ rests.Nothing
IsStatus path clause (is.Unit literal) = (rest_by path clause ≡ rests.One literal) × IsFree path literal
IsStatus path clause (is.Open literal) = IsFree path literal

-- the clause of a number has that literal left
pub record IsUnitAt (path : Path) (clauses : List (List ℤ)) (number : ℕ) (literal : ℤ) : Type 0 where
  pub positive : 0 < number
  pub unit : IsSomeAnd (slice_get clauses (number - 1)) (λ clause. rest_by path clause ≡ rests.One literal)
  pub free : IsFree path literal

-- what the first clauses come to
abbrev pub IsFound : Path → List (List ℤ) → ℕ → Found → Type 0
IsFound path clauses done has.True = (k : ℕ) → k < done → IsSomeAnd (slice_get clauses k) (λ clause. IsTrue (list_any (is_true_literal path) clause))
IsFound path clauses done (has.False number) = (0 < number) × IsSomeAnd (slice_get clauses (number - 1)) (λ clause. rest_by path clause ≡ rests.Nothing)
IsFound path clauses done (has.Unit number literal) = IsUnitAt path clauses number literal
IsFound path clauses done (has.Open literal) = IsFree path literal

-- what was found so far, with one clause more
abbrev pub with_unit : Found → ℕ → ℤ → Found
with_unit has.True number literal = has.Unit number literal
with_unit (has.False other) number literal = has.False other
with_unit (has.Unit other same) number literal = has.Unit other same
with_unit (has.Open other) number literal = has.Unit number literal

abbrev pub with_open : Found → ℤ → Found
with_open has.True literal = has.Open literal
with_open (has.False other) literal = has.False other
with_open (has.Unit other same) literal = has.Unit other same
with_open (has.Open other) literal = has.Open other

abbrev pub with_status : Found → Status → ℕ → Found
with_status found is.True number = found
with_status found is.False number = has.False number
with_status found (is.Unit literal) number = with_unit found number literal
with_status found (is.Open literal) number = with_open found literal
