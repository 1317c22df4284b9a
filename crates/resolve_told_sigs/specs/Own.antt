-- The fields that are joined to `this` where their names alone are written.
use Rattle.std.specs.Prelude.{◌≡◌, ◌⊎◌, ℕ, ◌<◌, false, List, [], Contains, All, Option, Some, None, slice_get}
use Rattle.core_tree.specs.declared.model.Sig.{Sig}
use Rattle.core_tree.specs.declared.model.Column.{Column}
use Rattle.core_tree.specs.declared.model.Column.TheVariants as column
use Rattle.core_tree.specs.Models.{IsAncestor, parents_of}
use Rattle.resolve_said.specs.declared.place.OwnField.{OwnField}
use Rattle.resolve_told_sigs.specs.declared.table.FieldDecl.{FieldDecl}

-- t is sig s or an ancestor of it
abbrev pub IsAtOrAbove : List Sig → ℕ → ℕ → Type 0
IsAtOrAbove sigs s t = (t ≡ s) ⊎ IsAncestor sigs t s

-- seen from instance k
abbrev pub IsSeen : ℕ → FieldDecl → Type 0
IsSeen k d = (d.is_private ≡ false) ⊎ (d.instance ≡ k)

-- of another sig than s, or in one of its first n lists
abbrev pub IsEarlier : (s n : ℕ) → FieldDecl → Type 0
IsEarlier s n d = d.owner ≡ s → d.list < n

-- In instance k and behind n lists of fields of sig s, the field is joined to `this`: it is one of s in a list before, or one of an
-- ancestor, and is seen.
pub record IsJoined (sigs : List Sig) (k s n : ℕ) (d : FieldDecl) : Type 0 where
  pub seen : IsSeen k d
  pub above : IsAtOrAbove sigs s d.owner
  pub earlier : IsEarlier s n d

abbrev pub own_field : ℕ → FieldDecl → OwnField
own_field f d = record { name = d.name; field = f }

-- one of the declared fields that are joined
abbrev pub IsOwn : List Sig → List FieldDecl → (k s n : ℕ) → OwnField → Type 0
IsOwn sigs fields k s n o = (f : ℕ) × (d : FieldDecl) × (slice_get fields f ≡ Some d) × IsJoined sigs k s n d × (own_field f d ≡ o)

-- just the declared fields that are joined
pub record AreOwn (sigs : List Sig) (fields : List FieldDecl) (k s n : ℕ) (own : List OwnField) : Type 0 where
  pub each : (o : OwnField) → Contains own o → IsOwn sigs fields k s n o
  pub every : (f : ℕ) (d : FieldDecl) → slice_get fields f ≡ Some d → IsJoined sigs k s n d → Contains own (own_field f d)

-- ------------------------------------------------------------------ of the test

-- just sig s and its ancestors
pub record AreAbove (sigs : List Sig) (s : ℕ) (ts : List ℕ) : Type 0 where
  pub each : (t : ℕ) → Contains ts t → IsAtOrAbove sigs s t
  pub every : (t : ℕ) → IsAtOrAbove sigs s t → Contains ts t

abbrev pub parents_in : Option Sig → List Column
parents_in None = []
parents_in (Some d) = parents_of d.kind

-- the parents of sig s; none where there is no such sig
abbrev pub parents_at : List Sig → ℕ → List Column
parents_at sigs s = parents_in (slice_get sigs s)

-- in a list stand those that stood there, and of the parents the sigs
pub record AreAdded (parents : List Column) (old new : List ℕ) : Type 0 where
  pub kept : (t : ℕ) → Contains old t → Contains new t
  pub only : (t : ℕ) → Contains new t → Contains old t ⊎ Contains parents (column.Sig t)

-- a parent stands in the list, where it is a sig
abbrev pub IsIn : List ℕ → Column → Type 0
IsIn ts column.Int = Unit {0}
IsIn ts (column.Sig t) = Contains ts t

abbrev pub HasParentsIn : List Sig → List ℕ → ℕ → Type 0
HasParentsIn sigs ts s = All (IsIn ts) (parents_at sigs s)
