-- The clauses of lemmas, and that no lemma contains a clause that was there before it.
use Rattle.std.specs.Prelude.{ℕ, ◌<◌, ◌≡◌, ℤ, List, [], ◌∷◌, All, length, slice_index_or}
use Rattle.sat_lrat.specs.declared.line.Line.{Line}
use Rattle.sat_lrat.specs.declared.line.Line.TheVariants.{Lemma, Delete}
use Rattle.sat_lrat.specs.Spent.{IsNewClause}
use Rattle.sat_trail.specs.State.{Search, clause_at, IsAttached}
use Rattle.sat_dropped.specs.Part.{IsPart}

-- what is there behind lines: the clauses of their lemmas, the latest first, and then the earlier clauses
abbrev pub behind : List (List ℤ) → List Line → List (List ℤ)
behind earlier [] = earlier
behind earlier (Lemma id clause hints ∷ lines) = behind (clause ∷ earlier) lines
behind earlier (Delete ids ∷ lines) = behind earlier lines

-- each lemma is new behind the earlier clauses and the lemmas before it
abbrev pub AreNew : List (List ℤ) → List Line → Type 0
AreNew earlier [] = Unit {0}
AreNew earlier (Lemma id clause hints ∷ lines) = IsNewClause earlier clause × AreNew (clause ∷ earlier) lines
AreNew earlier (Delete ids ∷ lines) = AreNew earlier lines

-- no clause of a list is empty
abbrev pub AreAllFilled : List (List ℤ) → Type 0
AreAllFilled clauses = All (λ (clause : List ℤ). 0 < length clause) clauses

-- each clause of a list is one of the trail's
abbrev pub AreHeld : Search → List (List ℤ) → Type 0
AreHeld s clauses = (k : ℕ) → k < length clauses → (i : ℕ) × (i < length s.ends) × (clause_at s i ≡ slice_index_or clauses k [])

-- each clause of a list is an attached one of the trail, in its place
abbrev pub AreFirst : Search → List (List ℤ) → Type 0
AreFirst s clauses = (k : ℕ) → k < length clauses → (k < length s.ends) × IsAttached s k × (clause_at s k ≡ slice_index_or clauses k [])

-- no clause of the trail, attached or not, has all of its literals among these
abbrev pub IsNewBeside : Search → List ℤ → Type 0
IsNewBeside s literals = (i : ℕ) → i < length s.ends → IsPart (clause_at s i) literals → ⊥
