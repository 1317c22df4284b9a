-- Marks of the instances that an instance reaches.
use Rattle.std.specs.Prelude.{◌≡◌, ◌↔◌, ◌⊎◌, ℕ, ◌<◌, Bool, true, false, List, All, Contains, Some, length, slice_get}
use Rattle.resolve_names.specs.declared.table.Link.{Link}
use Rattle.resolve_names.specs.declared.table.Namespace.{Namespace}
use Rattle.resolve_names.specs.Visible.{HasOpen, Reaches, IsStep, Follows, Leads}

abbrev pub IsMarked : List Bool → ℕ → Type 0
IsMarked marks j = slice_get marks j ≡ Some true

-- each open leads to an instance of the list
abbrev pub IsLinked : List Namespace → Type 0
IsLinked scopes = (i : ℕ) (o : Link) → HasOpen scopes i o → o.instance < length scopes

-- an instance without a mark to which an open of a marked one leads that isn't private
abbrev pub IsNext : List Namespace → List Bool → ℕ → Type 0
IsNext scopes marks t = (j : ℕ) × (o : Link) × HasOpen scopes j o × IsMarked marks j × (o.is_private ≡ false) × (o.instance ≡ t) × (slice_get marks t ≡ Some false)

-- there is none
abbrev pub IsClosed : List Namespace → List Bool → Type 0
IsClosed scopes marks = (j : ℕ) (o : Link) → HasOpen scopes j o → IsMarked marks j → o.is_private ≡ false → slice_get marks o.instance ≡ Some false → ⊥

-- the marked ones are reached, and these are marked: the first, and those to which the opens of the list lead
pub record IsBegun (scopes : List Namespace) (from : ℕ) (opens : List Link) (marks : List Bool) : Type 0 where
  pub every : length marks ≡ length scopes
  pub sound : (j : ℕ) → IsMarked marks j → Reaches scopes from j
  pub own : IsMarked marks from
  pub seeds : (o : Link) → Contains opens o → IsMarked marks o.instance

-- just the instances that are reached are marked
pub record AreReached (scopes : List Namespace) (from : ℕ) (marks : List Bool) : Type 0 where
  pub every : length marks ≡ length scopes
  pub just : (j : ℕ) → IsMarked marks j ↔ Reaches scopes from j

-- an open that has the alias and isn't private, or stands in the name's own instance
abbrev pub MayFollow : Bool → List ℕ → Link → Type 0
MayFollow is_own alias o = (o.alias ≡ alias) × ((is_own ≡ true) ⊎ (o.is_private ≡ false))

-- one of the opens may be followed and leads to j
abbrev pub LeadsTo : Bool → List ℕ → List Link → ℕ → Type 0
LeadsTo is_own alias opens j = (o : Link) × Contains opens o × MayFollow is_own alias o × (o.instance ≡ j)

-- the marks to which just those are added to which the opens lead
pub record AreOpened (is_own : Bool) (alias : List ℕ) (opens : List Link) (old : List Bool) (new : List Bool) : Type 0 where
  pub every : length new ≡ length old
  pub just : (j : ℕ) → IsMarked new j ↔ (IsMarked old j ⊎ LeadsTo is_own alias opens j)

-- an open with the alias leads to j from one of the first n instances, which was marked before
abbrev pub IsAfter : List Namespace → ℕ → List ℕ → List Bool → ℕ → ℕ → Type 0
IsAfter scopes from alias before n j = (i : ℕ) × (o : Link) × (i < n) × IsMarked before i × IsStep scopes from alias i o × (o.instance ≡ j)

-- just the instances to which such opens lead are marked
pub record AreFollowed (scopes : List Namespace) (from : ℕ) (alias : List ℕ) (before : List Bool) (n : ℕ) (marks : List Bool) : Type 0 where
  pub every : length marks ≡ length scopes
  pub just : (j : ℕ) → IsMarked marks j ↔ IsAfter scopes from alias before n j

-- just the instances to which the aliases in turn lead are marked
pub record AreBehind (scopes : List Namespace) (from : ℕ) (path : List (List ℕ)) (marks : List Bool) : Type 0 where
  pub just : (j : ℕ) → IsMarked marks j ↔ Follows scopes from from path j

-- just the instances to which the part before a name leads are marked
pub record AreLed (scopes : List Namespace) (from : ℕ) (is_own : Bool) (path : List (List ℕ)) (marks : List Bool) : Type 0 where
  pub just : (j : ℕ) → IsMarked marks j ↔ Leads scopes from is_own path j

-- each open leads to one of so many instances
abbrev pub IsScoped : ℕ → Namespace → Type 0
IsScoped count scope = All (λ l. l.instance < count) scope.opens

abbrev pub AreScoped : ℕ → List Namespace → Type 0
AreScoped count scopes = All (IsScoped count) scopes
