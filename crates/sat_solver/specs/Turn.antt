-- What a turn of the search comes to: it goes on, or has its answer within the budget.
use Rattle.std.specs.Prelude.{◌≡◌, ℕ, ◌+◌, ◌-◌, ◌*◌, ◌<◌, ◌≤◌, ◌^◌, ◌⊎◌, List, ℤ, Option, Some, IfSome, length}
use Rattle.sat_lrat.specs.declared.line.Line.{Line}
use Rattle.sat_lrat.specs.declared.outcome.Outcome.{Outcome}
use Rattle.sat_lrat.specs.declared.outcome.Outcome.TheVariants as outcome
use Rattle.sat_lrat.specs.Step.{State, start, Refutes}
use Rattle.sat_lrat.specs.Spent.{Spends}
use Rattle.sat_lemmas.specs.declared.log.Taken.{Taken}
use Rattle.sat_lemmas.specs.declared.log.Taken.TheVariants as taken
use Rattle.sat_lemmas.specs.Outcome.{AreLemmas}
use Rattle.sat_trail.specs.State.{Search}
use Rattle.sat_dropped.specs.Entries.{Entries, entry_count}
use Rattle.sat_solver.specs.declared.round.Turn.{Turn}
use Rattle.sat_solver.specs.declared.round.Turn.TheVariants.{On, Refuted, Full, Spent}
use Rattle.sat_solver.specs.News.{behind, AreNew, AreAllFilled}
use Rattle.sat_solver.specs.Remaining.{remaining}
use Rattle.sat_solver.specs.Searched.{IsSearch, AreTrue}

-- the lines refute the formula, and where none of its clauses is empty each lemma is new
abbrev pub IsRefuted : List (List ℤ) → List Line → Type 0
IsRefuted formula lines = Refutes formula lines × (AreAllFilled formula → AreNew formula lines)

-- what a lemma that was learnt comes to
abbrev pub IsKept : List (List ℤ) → Taken → List Line → State → Search → ℕ → Entries → Type 0
IsKept formula taken.Added lines state s count d = IsSearch formula lines state s count d
IsKept formula taken.Refuted lines state s count d = IsRefuted formula lines
IsKept formula taken.Failed lines state s count d = ⊥

-- the search goes on, or the formula is refuted, or each of its clauses has a true literal, or the lines spend the budget
abbrev pub IsTurn : List (List ℤ) → Option ℕ → Turn → List Line → State → Search → ℕ → Entries → Type 0
IsTurn formula budget On lines state s count d = IsSearch formula lines state s count d
IsTurn formula budget Refuted lines state s count d = IsRefuted formula lines
IsTurn formula budget Full lines state s count d = AreTrue formula s.assignment.trail
IsTurn formula budget Spent lines state s count d = (budget ≡ Some (length lines)) × AreLemmas (start formula) lines state × Spends formula (length lines) lines × (length lines < 3 ^ s.variables)

-- the lemmas of a refutation are new where no clause of the formula is empty
abbrev pub AreNewIn : List (List ℤ) → Outcome → Type 0
AreNewIn formula (outcome.Assignment values) = Unit {0}
AreNewIn formula (outcome.Refutation lines) = AreAllFilled formula → AreNew formula lines
AreNewIn formula (outcome.Spent lines) = Unit {0}

-- so many lemmas are within a budget
abbrev pub AreWithin : Option ℕ → List Line → Type 0
AreWithin budget lines = IfSome budget (λ limit. length lines ≤ limit)

-- a refutation is within its budget, and a spent budget has fewer lemmas than there are clauses over so many variables that
-- name none twice
abbrev pub AreFew : ℕ → Option ℕ → Outcome → Type 0
AreFew variables budget (outcome.Assignment values) = Unit {0}
AreFew variables budget (outcome.Refutation lines) = AreWithin budget lines
AreFew variables budget (outcome.Spent lines) = length lines < 3 ^ variables

-- a turn goes on with one lemma more, or with a dropped lemma back, or with more true literals
abbrev pub GoesOn : ℕ → List (List ℤ) → List Line → Entries → List ℤ → List Line → Entries → List ℤ → Type 0
GoesOn variables formula lines d trail lines' d' trail' =
    (remaining variables (behind formula lines') < remaining variables (behind formula lines))
    ⊎ (((lines' ≡ lines) × (entry_count d' < entry_count d)) ⊎ ((lines' ≡ lines) × (entry_count d' ≡ entry_count d) × (length trail < length trail')))

-- what is left to do: the clauses that can still be new, then the dropped lemmas that can come back, of which there are fewer
-- than 2 ^ 64, and then the literals that can still be true
abbrev pub left : ℕ → List (List ℤ) → List Line → Entries → List ℤ → ℕ
left variables formula lines d trail = (remaining variables (behind formula lines) * 2 ^ 64 + entry_count d) * (variables + 1) + (variables - length trail)
