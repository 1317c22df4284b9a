-- The opens that a look-up follows, and the declarations that it collects from the marked
-- instances.
use Rattle.std.specs.Prelude.{ℕ, ◌+◌, ◌==◌, Bool, true, not, cond, ◌&&◌, ◌||◌, List, [], ◌∷◌, ◌++◌, Option, Some, None, slice_get}
use Rattle.std.specs.List.{filter_map}
use Rattle.std.specs.Str.{bytes_eq}
use Rattle.resolve_names.specs.declared.table.Decl.{Decl}
use Rattle.resolve_names.specs.declared.table.Declared.{Declared}
use Rattle.resolve_names.specs.declared.table.Link.{Link}
use Rattle.resolve_names.specs.declared.table.Namespace.{Namespace}

-- an open with the alias that may be followed
abbrev pub may_follow : Bool → List ℕ → Link → Bool
may_follow is_own alias o = bytes_eq o.alias alias && (is_own || not o.is_private)

abbrev pub has_name : Bool → List ℕ → Declared → Bool
has_name is_own name d = bytes_eq d.name name && (is_own || not d.is_private)

-- the declaration of a marked instance, where it is seen
abbrev pub seen_in : Bool → List ℕ → Declared → Option Decl
seen_in is_own name d = cond (has_name is_own name d) (Some d.what) None

-- those of one instance
abbrev pub seen_of : Option Bool → Bool → List ℕ → List Declared → List Decl
seen_of (Some true) is_own name ds = filter_map (seen_in is_own name) ds
seen_of _ is_own name ds = []

-- those of the instances from a number on
abbrev pub seen_from : List Bool → ℕ → List ℕ → ℕ → List Namespace → List Decl
seen_from marks from name i [] = []
seen_from marks from name i (scope ∷ rest) = seen_of (slice_get marks i) (i == from) name scope.declared ++ seen_from marks from name (i + 1) rest
