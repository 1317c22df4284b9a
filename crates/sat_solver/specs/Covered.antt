-- What a search keeps of the lemmas that it has dropped.
use Rattle.std.specs.Prelude.{ℕ, ◌+◌, ◌-◌, ◌<◌, ◌≤◌, ◌≡◌, ◌⊎◌, ℤ, List, length}
use Rattle.sat_trail.specs.State.{Search, clause_at, IsAttached}
use Rattle.sat_dropped.specs.Part.{IsPart}
use Rattle.sat_dropped.specs.Entries.{Entries, HasEntry, AreFiled}

-- each clause is attached or has an entry
abbrev pub AreCovered : Search → Entries → Type 0
AreCovered s d = (i : ℕ) → i < length s.ends → IsAttached s i ⊎ HasEntry d (i + 1)

-- the entries are of clauses of the trail
pub record IsIndexed (s : Search) (d : Entries) : Type 0 where
  pub variables : d.variables ≡ s.variables
  pub filed : AreFiled s d.signatures d.numbers

-- no clause with an entry has all of its literals among these
abbrev pub HasNoPart : Search → Entries → List ℤ → Type 0
HasNoPart s d literals = (n : ℕ) → HasEntry d n → IsPart (clause_at s (n - 1)) literals → ⊥

-- no clause was attached, and each that was detached comes behind the first so many and has an entry
pub record Drops (s t : Search) (first : ℕ) (d : Entries) : Type 0 where
  pub left : (i : ℕ) → IsAttached s i → IsAttached t i ⊎ ((first ≤ i) × HasEntry d (i + 1))
  pub only : (i : ℕ) → IsAttached t i → IsAttached s i
