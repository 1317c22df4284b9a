-- What the outcome of a search says of its clauses: satisfied, refuted, or a budget spent.
use Rattle.std.specs.Prelude.{◌≡◌, ℕ, ℤ, List, Option, Some}
use Rattle.sat_dimacs.specs.Literal.{IsSolution}
use Rattle.sat_lrat.specs.Step.{Refutes}
use Rattle.sat_lrat.specs.Spent.{Spends}
use Rattle.sat_lrat.specs.declared.outcome.Outcome.{Outcome}
use Rattle.sat_lrat.specs.declared.outcome.Outcome.TheVariants.{Assignment, Refutation, Spent}

-- An assignment satisfies the clauses, a refutation refutes them, and lines that spend a budget are there only where a
-- budget was given.
abbrev pub Answers : ℕ → List (List ℤ) → Option ℕ → Outcome → Type 0
Answers variables formula budget (Assignment values) = IsSolution variables formula values
Answers variables formula budget (Refutation lines) = Refutes formula lines
Answers variables formula budget (Spent lines) = (allowed : ℕ) × (budget ≡ Some allowed) × Spends formula allowed lines
