-- What propagation keeps of an arena, its watches and the trail, said of them as they stand.
use Rattle.std.specs.Prelude.{ℕ, ◌-◌, ◌/◌, ◌<◌, ◌≤◌, ◌≡◌, ℤ, length}
use Rattle.sat_trail.specs.declared.arena.Arena.{Arena}
use Rattle.sat_trail.specs.declared.watches.Watches.{Watches}
use Rattle.sat_trail.specs.Assignment.{Assignment}
use Rattle.sat_trail.specs.Watched.{IsPair, IsCopied, IsWoven, IsWatched, IsKept, IsVisited, IsFalseIn}
use Rattle.sat_trail.specs.Reasons.{ForcesMore}

-- an assignment has a value for each variable of the arena
abbrev pub HasValues : Arena → Assignment → Type 0
HasValues arena assigned = length assigned.values ≡ arena.variables

-- each watched literal has the nodes that watch it on its list
abbrev pub AreWoven : Arena → Watches → Type 0
AreWoven arena watches = IsWoven arena.literals.items arena.ends.items watches.at.items watches.lists arena.variables

-- the copies are the watched literals
abbrev pub AreCopied : Arena → Watches → Type 0
AreCopied arena watches = IsCopied arena.literals.items arena.ends.items watches.at.items watches.copies.items

-- a clause that watches a literal that is false before this place of the trail is true
abbrev pub AreWatched : Arena → Watches → Assignment → ℕ → Type 0
AreWatched arena watches assigned place =
    IsWatched arena.literals.items arena.ends.items watches.at.items assigned.trail (length assigned.trail) place

-- what was watched still is, under a longer trail
abbrev pub StayWatched : Arena → Watches → Assignment → Watches → Assignment → Type 0
StayWatched arena watches assigned watches' assigned' =
    IsKept arena.literals.items arena.ends.items watches.at.items assigned.trail watches'.at.items assigned'.trail

-- each clause that watches the literal is true, but those whose nodes are loose
abbrev pub AreVisited : Arena → Watches → Assignment → ℤ → Type 0
AreVisited arena watches assigned w =
    IsVisited arena.literals.items arena.ends.items watches.at.items watches.lists.loose assigned.trail w

-- what came to the trail was forced by a clause at this level
abbrev pub Propagates : Arena → ℕ → Assignment → Assignment → Type 0
Propagates arena level assigned assigned' = ForcesMore arena.literals.items arena.ends.items level assigned assigned'

-- the clause of a node watches two literals
abbrev pub IsWatching : Arena → Watches → ℕ → Type 0
IsWatching arena watches node = IsPair arena.literals.items arena.ends.items watches.at.items (node / 2)

-- clause n, counted from 1, watches two literals, and all its literals are false
abbrev pub IsFalseClause : Arena → Watches → Assignment → ℕ → Type 0
IsFalseClause arena watches assigned = λ n.
    (0 < n) × (n ≤ length arena.ends.items)
    × IsPair arena.literals.items arena.ends.items watches.at.items (n - 1)
    × IsFalseIn arena.literals.items arena.ends.items assigned.trail (n - 1)
