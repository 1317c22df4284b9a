-- Where a sig stands in the hierarchy, as its text says it.
use Rattle.std.specs.Prelude.{◌≡◌, ℕ, List, [], ◌∷◌, length, Option, Some, None, slice_get}
use Rattle.std.specs.List.{filter_map}
use Rattle.syntax_tree.specs.declared.module.SigName.{SigName}
use Rattle.syntax_tree.specs.declared.module.SigName.TheVariants as written
use Rattle.syntax_tree.specs.declared.module.Parents.{Parents}
use Rattle.syntax_tree.specs.declared.module.Parents.TheVariants as parents
use Rattle.resolve_names.specs.declared.table.Decl.{Decl}
use Rattle.resolve_names.specs.declared.table.Decl.TheVariants as decl
use Rattle.resolve_names.specs.declared.table.Namespace.{Namespace}
use Rattle.resolve_names.specs.Gathered.{number_in}
use Rattle.resolve_names.specs.Visible.{AreCandidates}
use Rattle.core_tree.specs.declared.model.Column.{Column}
use Rattle.core_tree.specs.declared.model.Column.TheVariants as column
use Rattle.core_tree.specs.declared.model.SigKind.{SigKind}
use Rattle.core_tree.specs.declared.model.SigKind.TheVariants as kind

-- what a declaration is as a parent: a sig or `Int`
abbrev pub parent_of : List Namespace → Decl → Option Column
parent_of scopes (decl.Sig r) = Some (column.Sig (number_in scopes r))
parent_of scopes (decl.Parameter None) = Some column.Int
parent_of scopes (decl.Parameter (Some r)) = Some (column.Sig (number_in scopes r))
parent_of scopes (decl.Field f) = None
parent_of scopes (decl.Body b) = None

-- in instance k the name stands for just this sig, or for `Int`
abbrev pub NamesParent : List Namespace → ℕ → SigName → Column → Type 0
NamesParent scopes k (written.Int place) c = c ≡ column.Int
NamesParent scopes k (written.Name q) c = (ds : List Decl) × AreCandidates scopes k q ds × (filter_map (parent_of scopes) ds ≡ c ∷ [])

-- in instance k the names stand for just these, in order
pub record AreParents (scopes : List Namespace) (k : ℕ) (xs : List SigName) (cs : List Column) : Type 0 where
  pub every : length xs ≡ length cs
  pub each : (i : ℕ) (x : SigName) → slice_get xs i ≡ Some x → (c : Column) → slice_get cs i ≡ Some c → NamesParent scopes k x c

-- a sig of instance k stands where these words say
abbrev pub IsKind : List Namespace → ℕ → Parents → SigKind → Type 0
IsKind scopes k parents.Top d = d ≡ kind.Top
IsKind scopes k (parents.Extends x) d = (s : ℕ) × NamesParent scopes k x (column.Sig s) × (d ≡ kind.Extends s)
IsKind scopes k (parents.Subset xs) d = (cs : List Column) × AreParents scopes k xs cs × (d ≡ kind.Subset cs)
