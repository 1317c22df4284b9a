-- The two watched literals: clauses and their watches in arrays, and the invariant of propagation.
use Rattle.std.specs.Prelude.{ℕ, zero, suc, ◌+◌, ◌-◌, ◌*◌, ◌/◌, ◌%◌, ◌<◌, ◌≤◌, ◌≡◌, ◌≢◌, ◌==◌, if◌then◌else◌, ℤ, neg_ℤ, List, ◌++◌, ◌⊎◌, length, take, drop, slice_index}
use Rattle.std.specs.List.{Contains}
use Rattle.sat_trail.specs.Literal.{IsLiteral, list_of}
use Rattle.sat_lists.specs.Nodes.{Lists, list_at}
use Rattle.sat_trail.specs.Assignment.{value_at}

-- where the literals of a clause begin; they end before `ends` at it
abbrev pub start_of : List ℕ → ℕ → ℕ
start_of ends zero = 0
start_of ends (suc i) = slice_index ends i

-- a place among the literals of a clause
abbrev pub InClause : List ℕ → ℕ → ℕ → Type 0
InClause ends i p = (start_of ends i ≤ p) × (p < slice_index ends i)

-- the clauses lie one after another, over literals of so many variables
pub record IsArena (literals : List ℤ) (ends : List ℕ) (variables : ℕ) : Type 0 where
  pub ordered : (i : ℕ) → i < length ends → (start_of ends i ≤ slice_index ends i) × (slice_index ends i ≤ length literals)
  pub literal : (p : ℕ) → p < length literals → IsLiteral variables (value_at literals p)
  pub full : start_of ends (length ends) ≡ length literals

-- some literal of the clause is true
abbrev pub IsTrueIn : List ℤ → List ℕ → List ℤ → ℕ → Type 0
IsTrueIn literals ends trail i = (p : ℕ) × InClause ends i p × Contains trail (value_at literals p)

-- every literal of the clause is false
abbrev pub IsFalseIn : List ℤ → List ℕ → List ℤ → ℕ → Type 0
IsFalseIn literals ends trail i = (p : ℕ) → InClause ends i p → Contains trail (neg_ℤ (value_at literals p))

-- the literal that a node watches; nodes 2 i and 2 i + 1 are those of clause i
abbrev pub watched : List ℤ → List ℕ → ℕ → ℤ
watched literals at k = value_at literals (slice_index at k)

abbrev pub sibling : ℕ → ℕ
sibling k = if k % 2 == 0 then k + 1 else k - 1

-- the two nodes of the clause watch different literals of it
pub record IsPair (literals : List ℤ) (ends at : List ℕ) (i : ℕ) : Type 0 where
  pub one : InClause ends i (slice_index at (2 * i))
  pub two : InClause ends i (slice_index at (2 * i + 1))
  pub different : watched literals at (2 * i) ≢ watched literals at (2 * i + 1)

-- the copy of the literal that each node of a pair watches
pub record IsCopied (literals : List ℤ) (ends at : List ℕ) (copies : List ℤ) : Type 0 where
  pub same_length : length copies ≡ length at
  pub same : (k : ℕ) → k < length at → IsPair literals ends at (k / 2) → value_at copies k ≡ watched literals at k

-- a clause of which a watched literal is false among the first d true literals has a true one among the first n
abbrev pub IsWatched : List ℤ → List ℕ → List ℕ → List ℤ → ℕ → ℕ → Type 0
IsWatched literals ends at trail n d =
    (k : ℕ) → k < length at → IsPair literals ends at (k / 2) → Contains (take d trail) (neg_ℤ (watched literals at k)) → IsTrueIn literals ends (take n trail) (k / 2)

-- each node of a pair stands on the list of the literal that it watches, or is loose while that list is walked, and only such
-- nodes do
pub record IsWoven (literals : List ℤ) (ends at : List ℕ) (lists : Lists) (variables : ℕ) : Type 0 where
  pub two_each : length at ≡ 2 * length ends
  pub count : length lists.lists ≡ 2 * variables
  pub listed : (c k : ℕ) → c < 2 * variables → Contains (list_at lists c) k → (k < length at) × IsPair literals ends at (k / 2)
  pub loose : (k : ℕ) → Contains lists.loose k → (k < length at) × IsPair literals ends at (k / 2)
  pub linked : (k : ℕ) → k < length at → IsPair literals ends at (k / 2) → Contains (list_at lists (list_of (watched literals at k))) k ⊎ (Contains lists.loose k × (list_of (watched literals at k) ≡ lists.walked))

-- each clause that watches the literal, but those of the loose nodes, is true
abbrev pub IsVisited : List ℤ → List ℕ → List ℕ → List ℕ → List ℤ → ℤ → Type 0
IsVisited literals ends at loose trail w =
    (k : ℕ) → k < length at → IsPair literals ends at (k / 2) → watched literals at k ≡ w → Contains loose k ⊎ IsTrueIn literals ends trail (k / 2)

-- later true literals and watches, under which whatever was watched still is, and no clause comes to watch
pub record IsKept (literals : List ℤ) (ends at : List ℕ) (trail : List ℤ) (at' : List ℕ) (trail' : List ℤ) : Type 0 where
  pub longer : (ts : List ℤ) × (trail' ≡ trail ++ ts)
  pub watched : (n d : ℕ) → n ≤ length trail → d ≤ length trail → IsWatched literals ends at trail n d → IsWatched literals ends at' trail' n d
  pub pairs : (i : ℕ) → IsPair literals ends at i → IsPair literals ends at' i
  pub back : (i : ℕ) → IsPair literals ends at' i → IsPair literals ends at i
  pub others : (k : ℕ) → (IsPair literals ends at (k / 2) → ⊥) → slice_index at' k ≡ slice_index at k

-- what is left once a loose node is taken: it is settled, and its clause can be forgotten
pub record IsTaken (literals : List ℤ) (ends : List ℕ) (variables : ℕ) (at : List ℕ) (trail : List ℤ) (loose at' : List ℕ) (trail' : List ℤ) (lists' : Lists) : Type 0 where
  pub woven : IsWoven literals ends at' lists' variables
  pub kept : IsKept literals ends at trail at' trail'
  pub visited : (w : ℤ) → Contains trail (neg_ℤ w) → IsVisited literals ends at loose trail w → IsVisited literals ends at' lists'.loose trail' w
  pub rest : lists'.loose ≡ drop 1 loose

-- all literals of the clause are one literal
abbrev pub IsAlike : List ℤ → List ℕ → ℕ → Type 0
IsAlike literals ends i = (p q : ℕ) → InClause ends i p → InClause ends i q → value_at literals p ≡ value_at literals q
