-- Places across instances, in the order in which refusals count, and the first of them.
use Rattle.std.specs.Prelude.{◌≡◌, ◌==◌, nat_lt, Bool, true, false, ◌&&◌, ◌||◌, if◌then◌else◌, List, [], ◌∷◌, ◌++◌, Option, Some, None}
use Rattle.base_types.specs.declared.place.Position.{Position}
use Rattle.core_tree.specs.declared.model.Origin.{Origin}

-- in one text: by line, and in one line by column
abbrev pub stands_before : Position → Position → Bool
stands_before p q = nat_lt p.line q.line || (p.line == q.line && nat_lt p.column q.column)

-- by instance in load order, and in one instance by place
abbrev pub comes_before : Origin → Origin → Bool
comes_before a b = nat_lt a.instance b.instance || (a.instance == b.instance && stands_before a.place b.place)

-- the earlier one of what was found and a further place
abbrev pub earlier : Option Origin → Origin → Option Origin
earlier None at = Some at
earlier (Some first) at = if comes_before at first then Some at else Some first

-- the first one of what was found and further places
abbrev pub first_from : Option Origin → List Origin → Option Origin
first_from found [] = found
first_from found (at ∷ rest) = first_from (earlier found at) rest

abbrev pub first_of : List Origin → Option Origin
first_of places = first_from None places

-- a place at which something is broken, with none before it at which it is
abbrev pub IsFirst : (Origin → Type 0) → Origin → Type 0
IsFirst Broken at = Broken at × ((other : Origin) → Broken other → comes_before other at ≡ false)

-- it is broken nowhere
abbrev pub IsKept : (Origin → Type 0) → Type 0
IsKept Broken = (at : Origin) → Broken at → ⊥

-- the first place at which something is broken, or none where it is kept
abbrev pub Finds : (Origin → Type 0) → Option Origin → Type 0
Finds Broken None = IsKept Broken
Finds Broken (Some at) = IsFirst Broken at

-- a place under a condition
abbrev pub place_if : Bool → Origin → List Origin
place_if true at = at ∷ []
place_if false at = []

-- a place under a condition, where there is one
abbrev pub some_place_if : Bool → Option Origin → List Origin
some_place_if is (Some at) = place_if is at
some_place_if is None = []

-- what a function gives of each item, in order
abbrev pub each : {X Y : Type 0} → (X → List Y) → List X → List Y
each f [] = []
each f (x ∷ xs) = f x ++ each f xs

-- the same of a function that also sees the items before
abbrev pub each_behind : {X Y : Type 0} → (List X → X → List Y) → List X → List X → List Y
each_behind f before [] = []
each_behind f before (x ∷ xs) = f before x ++ each_behind f (before ++ x ∷ []) xs
