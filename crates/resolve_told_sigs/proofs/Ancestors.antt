-- A list that has a sig, and with each of its items the parents, has all ancestors of the sig.
use Rattle.std.proofs.Common.{◌≡◌, inl, inr, ℕ, List, [], Contains, All, Option, Some, None, slice_get, refl, sym, ap, subst, arith}
use Rattle.std.proofs.lemmas.List.Elements.{All-contains}
use Rattle.core_tree.specs.declared.model.Sig.{Sig}
use Rattle.core_tree.specs.declared.model.Column.{Column}
use Rattle.core_tree.specs.declared.model.Column.TheVariants as column
use Rattle.core_tree.specs.Models.{IsAncestor, parent, above, parents_of}
use Rattle.resolve_told_sigs.specs.Own.{AreAbove, AreAdded, HasParentsIn, IsAtOrAbove, IsIn, parents_at, parents_in}

module _ (sigs : List Sig) where
  -- the parents of the sig of a place
  pub parents_there : (s : ℕ) (d : Sig) → slice_get sigs s ≡ Some d → parents_at sigs s ≡ parents_of d.kind
  parents_there s d at = ap parents_in at

  none_there : (c : Column) → Contains [] c → ⊥
  none_there c h = omega (arith, h.1)

  parent_of_some : (o : Option Sig) (s t : ℕ) → slice_get sigs s ≡ o → Contains (parents_in o) (column.Sig t) → IsAncestor sigs t s
  parent_of_some None s t at here = absurd (none_there (column.Sig t) here)
  parent_of_some (Some d) s t at here = parent d at here

  -- a parent of a sig is an ancestor
  pub parent_is : (s t : ℕ) → Contains (parents_at sigs s) (column.Sig t) → IsAncestor sigs t s
  parent_is s t here = parent_of_some (slice_get sigs s) s t refl here

  -- and is one of each sig of which that is an ancestor
  pub further_is : (s t u : ℕ) → IsAncestor sigs t s → Contains (parents_at sigs t) (column.Sig u) → IsAncestor sigs u s
  further_is s t u (parent d at here) next = above d at here (parent_is t u next)
  further_is s t u (above {p = p} d at here up) next = above d at here (further_is p t u up next)

  pub above_next : (s t u : ℕ) → IsAtOrAbove sigs s t → Contains (parents_at sigs t) (column.Sig u) → IsAtOrAbove sigs s u
  above_next s t u (inl e) next = inr (subst (λ x. IsAncestor sigs u x) e (parent_is t u next))
  above_next s t u (inr up) next = inr (further_is s t u up next)

  -- what is added of the parents of one is above too
  pub above_added : (s t : ℕ) (old new : List ℕ) → IsAtOrAbove sigs s t → ((u : ℕ) → Contains old u → IsAtOrAbove sigs s u) → AreAdded (parents_at sigs t) old new → (u : ℕ) → Contains new u → IsAtOrAbove sigs s u
  above_added s t old new here before added u h = elim (added.only u h) [ inl x ↦ before u x | inr x ↦ above_next s t u here x ]

  module _ (ts : List ℕ) (closed : All (HasParentsIn sigs ts) ts) where
    parent_in : (s t : ℕ) (d : Sig) → Contains ts s → slice_get sigs s ≡ Some d → Contains (parents_of d.kind) (column.Sig t) → Contains ts t
    parent_in s t d there at here =
        All-contains (IsIn ts) (parents_of d.kind) (column.Sig t) (subst (λ (cs : List Column). All (IsIn ts) cs) (parents_there s d at) (All-contains (HasParentsIn sigs ts) ts s closed there)) here

    ancestor_in : (s t : ℕ) → Contains ts s → IsAncestor sigs t s → Contains ts t
    ancestor_in s t there (parent d at here) = parent_in s t d there at here
    ancestor_in s t there (above {p = p} d at here up) = ancestor_in p t (parent_in s p d there at here) up

    every_in : (s t : ℕ) → Contains ts s → IsAtOrAbove sigs s t → Contains ts t
    every_in s t there (inl e) = subst (λ u. Contains ts u) (sym e) there
    every_in s t there (inr up) = ancestor_in s t there up

    pub are_above : (s : ℕ) → Contains ts s → ((t : ℕ) → Contains ts t → IsAtOrAbove sigs s t) → AreAbove sigs s ts
    are_above s there each = record { each = each; every = λ t h. every_in s t there h }
