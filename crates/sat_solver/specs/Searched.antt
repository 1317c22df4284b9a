-- What a search keeps from one step to the next.
use Rattle.std.specs.Prelude.{ℕ, ◌+◌, ◌<◌, ◌≤◌, ◌≡◌, ◌⊎◌, ℤ, List, [], length, slice_index_or}
use Rattle.std.specs.List.{Contains}
use Rattle.sat_lrat.specs.declared.line.Line.{Line}
use Rattle.sat_lrat.specs.Step.{State, start}
use Rattle.sat_lemmas.specs.Outcome.{AreLemmas}
use Rattle.sat_trail.specs.Literal.{index}
use Rattle.sat_trail.specs.Assignment.{value_at}
use Rattle.sat_trail.specs.State.{Search}
use Rattle.sat_analysis.specs.Resolved.{AreWhole}
use Rattle.sat_analysis.specs.Learnt.{AreFilled}
use Rattle.sat_dropped.specs.Entries.{Entries}
use Rattle.sat_solver.specs.Shared.{AreShared}
use Rattle.sat_solver.specs.News.{behind, AreNew, AreAllFilled, AreHeld, AreFirst}
use Rattle.sat_solver.specs.Covered.{AreCovered, IsIndexed}
use Rattle.sat_solver.specs.Remaining.{remaining}

-- The lines are lemmas that pass, each new, and so fewer clauses can still be new. The checker and the trail have the formula
-- and the lemmas. The formula's clauses come first and are attached, and each lemma is attached or has an entry. Every level
-- below the last was propagated to its end, and a clause that is empty is met before any level is opened or a lemma is kept.
pub record IsSearch (formula : List (List ℤ)) (lines : List Line) (state : State) (s : Search) (count : ℕ) (d : Entries) : Type 0 where
  pub lemmas : AreLemmas (start formula) lines state
  pub shared : AreShared s state
  pub first : count ≡ length formula
  pub held : AreFirst s formula
  pub earlier : AreHeld s (behind formula lines)
  pub covered : AreCovered s d
  pub indexed : IsIndexed s d
  pub whole : AreWhole s
  pub filled : AreFilled s ⊎ ((length s.limits ≡ 0) × (length lines ≡ 0))
  pub filled_too : AreAllFilled formula → AreFilled s
  pub fresh : AreNew formula lines
  pub fewer : length lines + remaining s.variables (behind formula lines) ≤ remaining s.variables formula

-- each clause of a formula has a true literal
abbrev pub AreTrue : List (List ℤ) → List ℤ → Type 0
AreTrue formula trail = (k : ℕ) → k < length formula → (l : ℤ) × Contains (slice_index_or formula k []) l × Contains trail l

-- each variable has a literal on the trail
abbrev pub IsFull : Search → Type 0
IsFull s = (i : ℕ) → i < s.variables → (j : ℕ) × (j < length s.assignment.trail) × (index (value_at s.assignment.trail j) ≡ i)
