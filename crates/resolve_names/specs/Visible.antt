-- Which instances an instance reaches by opens, and which declarations a name stands for there.
use Rattle.std.specs.Prelude.{◌≡◌, ◌⊎◌, ℕ, ◌+◌, ◌-◌, Bool, true, false, List, [], ◌∷◌, ◌++◌, map, take, length, Option, Some, None, Contains, slice_get}
use Rattle.syntax_tree.specs.declared.expr.QualName.{QualName}
use Rattle.resolve_names.specs.declared.table.Decl.{Decl}
use Rattle.resolve_names.specs.declared.table.Declared.{Declared}
use Rattle.resolve_names.specs.declared.table.Link.{Link}
use Rattle.resolve_names.specs.declared.table.Namespace.{Namespace}

-- the instance of that number has that open
abbrev pub HasOpen : List Namespace → ℕ → Link → Type 0
HasOpen scopes i o = (scope : Namespace) × (slice_get scopes i ≡ Some scope) × Contains scope.opens o

-- j is reached from i by opens that aren't private
pub data Passes (scopes : List Namespace) : ℕ → ℕ → Type 0 where
  here : {i : ℕ} → Passes scopes i i
  further : {i j : ℕ} {o : Link} → Passes scopes i j → HasOpen scopes j o → o.is_private ≡ false → Passes scopes i o.instance

-- j is i, or is reached from i: a private open is followed from its own module alone
pub data Reaches (scopes : List Namespace) (i : ℕ) : ℕ → Type 0 where
  own : Reaches scopes i i
  through : {j : ℕ} {o : Link} → HasOpen scopes i o → Passes scopes o.instance j → Reaches scopes i j

-- an open that may be followed in a name that stands in instance `from`
abbrev pub IsStep : List Namespace → ℕ → List ℕ → ℕ → Link → Type 0
IsStep scopes from alias i o = HasOpen scopes i o × (o.alias ≡ alias) × ((i ≡ from) ⊎ (o.is_private ≡ false))

-- j is reached from i by opens with these aliases in turn
abbrev pub Follows : List Namespace → ℕ → ℕ → List (List ℕ) → ℕ → Type 0
Follows scopes from i [] j = i ≡ j
Follows scopes from i (alias ∷ rest) j = (o : Link) × IsStep scopes from alias i o × Follows scopes from o.instance rest j

-- the parts before the last one, and the last one
abbrev pub path_of : List (List ℕ) → List (List ℕ)
path_of parts = take (length parts - 1) parts

abbrev text_or_none : Option (List ℕ) → List ℕ
text_or_none None = []
text_or_none (Some text) = text

abbrev pub last_of : List (List ℕ) → List ℕ
last_of parts = text_or_none (slice_get parts (length parts - 1))

-- the instances to which the part before the name leads
abbrev pub Leads : List Namespace → ℕ → Bool → List (List ℕ) → ℕ → Type 0
Leads scopes from true [] j = from ≡ j
Leads scopes from false [] j = Reaches scopes from j
Leads scopes from is_own (alias ∷ rest) j = Follows scopes from from (alias ∷ rest) j

-- a declaration, with the number of its instance
abbrev pub Declaration : Type 0
Declaration = ℕ × Declared

-- the name stands for the declaration in instance `from`: a private name is seen in its own module alone
abbrev pub Sees : List Namespace → ℕ → QualName → Declaration → Type 0
Sees scopes from name d =
    Leads scopes from name.is_own (path_of name.parts) d.0 × (d.1.name ≡ last_of name.parts) × ((d.0 ≡ from) ⊎ (d.1.is_private ≡ false))

abbrev pub numbered : ℕ → List Declared → List Declaration
numbered i [] = []
numbered i (d ∷ ds) = (i, d) ∷ numbered i ds

-- the declarations of the instances from number i on, in load order and then text order
abbrev pub declarations_from : ℕ → List Namespace → List Declaration
declarations_from i [] = []
declarations_from i (scope ∷ rest) = numbered i scope.declared ++ declarations_from (i + 1) rest

abbrev pub declarations : List Namespace → List Declaration
declarations scopes = declarations_from 0 scopes

-- just those items of which P holds, in their order
pub data Kept {X : Type 0} (P : X → Type 0) : List X → List X → Type 0 where
  done : Kept P [] []
  keep : {x : X} {xs ys : List X} → P x → Kept P xs ys → Kept P (x ∷ xs) (x ∷ ys)
  skip : {x : X} {xs ys : List X} → (P x → ⊥) → Kept P xs ys → Kept P (x ∷ xs) ys

abbrev pub what_of : Declaration → Decl
what_of d = d.1.what

-- the candidates of a name in an instance: just what it stands for, in load order and then text order
abbrev pub AreCandidates : List Namespace → ℕ → QualName → List Decl → Type 0
AreCandidates scopes from name found = (ds : List Declaration) × Kept (Sees scopes from name) (declarations scopes) ds × (found ≡ map what_of ds)
