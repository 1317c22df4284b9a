-- Lists of nodes, of which one at a time is walked: what stays on it, what is still to be visited, and how nodes move.
use Rattle.std.specs.Prelude.{ℕ, ◌/◌, ◌≤◌, ◌≡◌, Bool, false, not, List, [], ◌∷◌, ◌++◌, length, map, filter, take, drop, slice_index, slice_index_or, slice_set, Vec}
use Rattle.std.specs.declared.alloc.Global.{Global}

-- lists of nodes; the nodes that are still to be visited; and the number of the list that they stood on
pub record Lists : Type 0 where
  pub lists : List (List ℕ)
  pub loose : List ℕ
  pub walked : ℕ

-- what the lists hold
abbrev pub rows : List (Vec ℕ Global) → List (List ℕ)
rows lists = map (λ (v : Vec ℕ Global). v.items) lists

abbrev pub row_at : List (List ℕ) → ℕ → List ℕ
row_at ls c = slice_index_or ls c []

-- a node more at the end of a list
abbrev pub put_on : List (List ℕ) → ℕ → ℕ → List (List ℕ)
put_on ls c k = slice_set ls c (row_at ls c ++ k ∷ [])

-- of the walked list the first so many places have the nodes that stay, and those from the next place on are loose
abbrev pub walking : List (List ℕ) → ℕ → ℕ → ℕ → Lists
walking ls walked next kept = record { lists = slice_set ls walked (take kept (row_at ls walked)); loose = drop next (row_at ls walked); walked = walked }

-- no place is written before it is read, and the last one is where the walked list ends
pub record IsWalk (ls : List (List ℕ)) (walked next kept last : ℕ) : Type 0 where
  pub behind : kept ≤ next
  pub within : next ≤ last
  pub size : last ≡ length (row_at ls walked)

-- the list at a place
abbrev pub list_at : Lists → ℕ → List ℕ
list_at v c = slice_index_or v.lists c []

-- no list is walked
abbrev pub AreAtRest : Lists → Type 0
AreAtRest v = (v.loose ≡ []) × (v.walked ≡ length v.lists)

-- a node more on a list
abbrev pub added : Lists → ℕ → ℕ → Lists
added v c k = record { lists = put_on v.lists c k; loose = v.loose; walked = v.walked }

-- the nodes of a list made loose
abbrev pub begun : Lists → ℕ → Lists
begun v c = record { lists = slice_set v.lists c []; loose = list_at v c; walked = c }

-- the first loose node put on a list
abbrev pub settled : Lists → ℕ → Lists
settled v c = record { lists = put_on v.lists c (slice_index v.loose 0); loose = drop 1 v.loose; walked = v.walked }

-- the walk over
abbrev pub finished : Lists → Lists
finished v = record { lists = v.lists; loose = []; walked = length v.lists }

-- a node whose pair isn't marked; pair i has the nodes 2 i and 2 i + 1
abbrev pub stays : List Bool → ℕ → Bool
stays marks k = not (slice_index_or marks (k / 2) false)

-- the nodes of marked pairs left out
abbrev pub retained : List Bool → Lists → Lists
retained marks v = record { lists = map (filter (stays marks)) v.lists; loose = v.loose; walked = v.walked }
