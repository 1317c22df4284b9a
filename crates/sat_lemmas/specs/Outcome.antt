-- What the lemmas of a search say of its clauses.
use Rattle.std.specs.Prelude.{◌≡◌, ℕ, ℤ, Bool, true, false, List, [], ◌∷◌, ◌++◌, Option, Some, Err, Ok, length, IsOkAnd}
use Rattle.sat_dimacs.specs.Literal.{IsSolution}
use Rattle.sat_lrat.specs.declared.line.Line.{Line}
use Rattle.sat_lrat.specs.declared.line.Line.TheVariants.{Lemma, Delete}
use Rattle.sat_lrat.specs.Step.{State, step, start, is_empty_lemma, Refutes}
use Rattle.sat_lrat.specs.declared.outcome.Outcome.{Outcome}
use Rattle.sat_lrat.specs.declared.outcome.Outcome.TheVariants.{Assignment, Refutation, Spent}
use Rattle.sat_lemmas.specs.declared.log.Taken.{Taken}
use Rattle.sat_lemmas.specs.declared.log.Taken.TheVariants.{Added, Refuted, Failed}

-- a line that is a lemma
abbrev pub is_lemma : Line → Bool
is_lemma (Lemma id clause hints) = true
is_lemma (Delete ids) = false

-- The lines are lemmas that are not empty, each passes, and they lead from one state to the other.
abbrev pub AreLemmas : State → List Line → State → Type 0
AreLemmas state [] end = state ≡ end
AreLemmas state (Delete ids ∷ lines) end = ⊥
AreLemmas state (Lemma id clause hints ∷ lines) end =
    (is_empty_lemma (Lemma id clause hints) ≡ false) × IsOkAnd (step state (Lemma id clause hints)) (λ next. AreLemmas next lines end)

-- what became of a line behind others
abbrev pub IsTaken : Line → List Line → State → Taken → List Line → State → Type 0
IsTaken line lines state Added lines' state' = (lines' ≡ lines ++ line ∷ []) × (step state line ≡ Ok state')
IsTaken line lines state Refuted lines' state' = (lines' ≡ lines ++ line ∷ []) × (step state line ≡ Ok state')
IsTaken line lines state Failed lines' state' = (lines' ≡ lines) × (state' ≡ state) × (rule : ℕ) × (step state line ≡ Err rule)

-- what the lines say of a formula then
abbrev pub Leaves : List (List ℤ) → Taken → List Line → State → Type 0
Leaves formula Added lines state = AreLemmas (start formula) lines state
Leaves formula Refuted lines state = Refutes formula lines
Leaves formula Failed lines state = AreLemmas (start formula) lines state

-- An assignment satisfies the formula, a refutation refutes it, and a spent budget has just so many lemmas, of which none
-- is empty and each passes.
abbrev pub IsAnswer : ℕ → List (List ℤ) → Option ℕ → Outcome → Type 0
IsAnswer variables formula budget (Assignment values) = IsSolution variables formula values
IsAnswer variables formula budget (Refutation lines) = Refutes formula lines
IsAnswer variables formula budget (Spent lines) = (budget ≡ Some (length lines)) × (end : State) × AreLemmas (start formula) lines end
