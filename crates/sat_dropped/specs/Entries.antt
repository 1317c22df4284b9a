-- An index of clauses: for each literal a list of entries, and where a clause's entry stands.
use Rattle.std.specs.Prelude.{ℕ, ◌-◌, ◌<◌, ◌≤◌, ◌≡◌, ℤ, List, [], length, slice_index, slice_index_or}
use Rattle.std.specs.List.{Contains, sum_by}
use Rattle.sat_trail.specs.State.{Search, clause_at}
use Rattle.sat_dropped.specs.Part.{slot_of, signature_of}

-- for each literal over so many variables a list of entries: the signatures of clauses, and beside them the clauses' numbers
pub record Entries : Type 0 where
  pub variables : ℕ
  pub signatures : List (List ℕ)
  pub numbers : List (List ℕ)

-- the list at a place
abbrev pub list_at : List (List ℕ) → ℕ → List ℕ
list_at lists c = slice_index_or lists c []

-- some list has an entry of the clause with this number
abbrev pub HasEntry : Entries → ℕ → Type 0
HasEntry d n = (c : ℕ) × Contains (list_at d.numbers c) n

-- how many entries there are
abbrev pub entry_count : Entries → ℕ
entry_count d = sum_by (λ (numbers : List ℕ). length numbers) d.numbers

-- the number of a clause, beside its signature
pub record IsSigned (s : Search) (signature n : ℕ) : Type 0 where
  pub number : (0 < n) × (n ≤ length s.ends)
  pub signature_is : signature ≡ signature_of (clause_at s (n - 1))

-- an entry in the list of a literal of its clause
pub record IsFiled (s : Search) (c signature n : ℕ) : Type 0 where
  pub signed : IsSigned s signature n
  pub listed : (l : ℤ) × Contains (clause_at s (n - 1)) l × (slot_of l ≡ c)

-- the entries of a list: signatures, and beside them numbers
pub record IsListFiled (s : Search) (c : ℕ) (signatures numbers : List ℕ) : Type 0 where
  pub beside : length signatures ≡ length numbers
  pub each : (k : ℕ) → k < length numbers → IsFiled s c (slice_index signatures k) (slice_index numbers k)

-- each entry is one of a clause of the trail, and stands in the list of one of its literals
abbrev pub AreFiled : Search → List (List ℕ) → List (List ℕ) → Type 0
AreFiled s signatures numbers = (c : ℕ) → IsListFiled s c (list_at signatures c) (list_at numbers c)
