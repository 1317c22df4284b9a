-- Ranks that fall along each call.
use Rattle.std.specs.Prelude.{◌≡◌, ℕ, ◌<◌, List, All, length, slice_index}
use Rattle.resolve_bodies.specs.declared.edge.Edge.{Edge}
use Rattle.resolve_bodies.specs.declared.order.Ranks.{Ranks}
use Rattle.resolve_bodies.specs.declared.order.Ranks.TheVariants as ranks

-- a call between bodies that have a rank goes to a lower one
abbrev pub DoesFall : List ℕ → Edge → Type 0
DoesFall all e = e.from < length all → e.to < length all → slice_index all e.to < slice_index all e.from

-- each of so many bodies has a rank, and it falls along each call
pub record AreFalling (bodies : ℕ) (edges : List Edge) (all : List ℕ) : Type 0 where
  pub every : length all ≡ bodies
  pub falling : All (DoesFall all) edges

abbrev pub IsOrder : ℕ → List Edge → Ranks → Type 0
IsOrder bodies edges (ranks.Ranked all) = AreFalling bodies edges all
IsOrder bodies edges (ranks.Cycle place) = place < length edges
