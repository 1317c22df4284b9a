-- What a trail keeps at each decision level: which clauses were propagated when it was opened,
-- so that one can go back to it.
use Rattle.std.specs.Prelude.{ℕ, ◌+◌, ◌*◌, ◌<◌, ◌≤◌, ◌≡◌, ◌≢◌, ℤ, neg_ℤ, Bool, true, false, List, ◌⊎◌, length, take, slice_index, slice_index_or}
use Rattle.std.specs.List.{Contains}
use Rattle.sat_lists.specs.Nodes.{Lists, AreAtRest}
use Rattle.sat_trail.specs.Assignment.{value_at}
use Rattle.sat_trail.specs.Watched.{InClause, IsTrueIn, IsPair, IsWatched, IsWoven, IsAlike}

-- clauses, which of them are attached, watches and true literals, and for each level that is open what stood when it was opened
pub record Net : Type 0 where
  pub literals : List ℤ
  pub ends : List ℕ
  pub attached : List Bool
  pub at : List ℕ
  pub short : List ℕ
  pub lists : Lists
  pub trail : List ℤ
  pub variables : ℕ
  pub lens : List ℕ
  pub dones : List ℕ
  pub short_dones : List ℕ
  pub top : ℕ
  pub done : ℕ
  pub short_done : ℕ

-- with the first n true literals, d of them and s of the short clauses are propagated
pub record IsFrame (m : Net) (n d s : ℕ) : Type 0 where
  pub within : n ≤ length m.trail
  pub done : d ≤ n
  pub short_done : s ≤ length m.short
  pub watched : IsWatched m.literals m.ends m.at m.trail n d
  pub shorts : (j : ℕ) → j < s → IsTrueIn m.literals m.ends (take n m.trail) (slice_index m.short j)

-- just the short clauses, whose nodes are at one place, and those that watch two literals are attached, and every open level can
-- be gone back to
pub record IsSound (m : Net) : Type 0 where
  pub woven : IsWoven m.literals m.ends m.at m.lists m.variables
  pub at_rest : AreAtRest m.lists
  pub marked : length m.attached ≡ length m.ends
  pub alike : (j : ℕ) → j < length m.short → (slice_index m.short j < length m.ends) × IsAlike m.literals m.ends (slice_index m.short j)
  pub covered : (i : ℕ) → i < length m.ends → slice_index_or m.attached i false ≡ true → Contains m.short i ⊎ IsPair m.literals m.ends m.at i
  pub pairs : (i : ℕ) → i < length m.ends → IsPair m.literals m.ends m.at i → slice_index_or m.attached i false ≡ true
  pub shorts : (j : ℕ) → j < length m.short → (slice_index_or m.attached (slice_index m.short j) false ≡ true) × (slice_index m.at (2 * slice_index m.short j) ≡ slice_index m.at (2 * slice_index m.short j + 1))
  pub now : IsFrame m (length m.trail) m.done m.short_done
  pub opened : (f : ℕ) → f < m.top → IsFrame m (slice_index m.lens f) (slice_index m.dones f) (slice_index m.short_dones f)
  pub rising : (f g : ℕ) → f ≤ g → g < m.top → slice_index m.lens f ≤ slice_index m.lens g
  pub below : (f : ℕ) → f < m.top → f ≤ slice_index m.lens f
  pub top : m.top ≤ length m.trail
  pub levels : m.top ≤ m.variables
  pub room : (length m.lens ≡ m.variables) × (length m.dones ≡ m.variables) × (length m.short_dones ≡ m.variables)

-- neither a literal nor its negation is true
abbrev pub IsFree : List ℤ → ℤ → Type 0
IsFree trail l = (Contains trail l → ⊥) × (Contains trail (neg_ℤ l) → ⊥)

-- the clause has two different free literals
abbrev pub IsOpen : List ℤ → List ℕ → List ℤ → ℕ → Type 0
IsOpen literals ends trail i = (p : ℕ) × (q : ℕ) × InClause ends i p × InClause ends i q × (value_at literals p ≢ value_at literals q) × IsFree trail (value_at literals p) × IsFree trail (value_at literals q)
