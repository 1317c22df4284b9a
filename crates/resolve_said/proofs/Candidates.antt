-- One of the candidates of a name is a declaration that the name stands for.
use Rattle.std.proofs.Common.{◌≡◌, ◌∙◌, ℕ, zero, suc, ◌<◌, List, length, map, Contains, slice_index_or, Some, sym, ap, subst, arith}
use Rattle.syntax_tree.specs.declared.expr.QualName.{QualName}
use Rattle.resolve_names.specs.declared.table.Decl.{Decl}
use Rattle.resolve_names.specs.declared.table.Decl.TheVariants as decl
use Rattle.resolve_names.specs.declared.table.Namespace.{Namespace}
use Rattle.resolve_names.specs.Visible.{Declaration, Kept, done, keep, skip, Sees, AreCandidates, what_of}
use Rattle.resolve_picks.specs.declared.target.Target.{Target}
use Rattle.resolve_picks.specs.declared.target.Target.TheVariants as target
use Rattle.resolve_said.specs.Operators.{Said}
use Rattle.resolve_said.specs.Said.{Standing, Stands, FieldSays, target_of}

in_kept : {P : Declaration → Type 0} {xs ys : List Declaration} (d : Decl) → Kept P xs ys → (k : ℕ) → k < length (map what_of ys) → slice_index_or (map what_of ys) k d ≡ d → (x : Declaration) × P x × (what_of x ≡ d)
in_kept d done k inside h = absurd (omega arith)
in_kept d (keep {x = x} p rest) zero inside h = (x, p, h)
in_kept d (keep p rest) (suc k) inside h = in_kept d rest k (omega arith) h
in_kept d (skip no_p rest) k inside h = in_kept d rest k inside h

pub candidate : (scopes : List Namespace) (from : ℕ) (q : QualName) (found : List Decl) (d : Decl) → AreCandidates scopes from q found → Contains found d → (x : Declaration) × Sees scopes from q x × (what_of x ≡ d)
candidate scopes from q found d are has =
    let h = subst (λ (l : List Decl). Contains l d) are.2 has in
    in_kept d are.1 h.0 h.1 h.2

pub declared_says : (at : Standing) (q : QualName) (found : List Decl) (picked : Target) (s : Said) → AreCandidates at.scopes at.instance q found → at.picks q.place ≡ Some picked →
    (d : Decl) × Contains found d × Stands at d s × (picked ≡ target_of at.scopes d) → (x : Declaration) × Sees at.scopes at.instance q x × Stands at x.1.what s × (at.picks q.place ≡ Some (target_of at.scopes x.1.what))
declared_says at q found picked s are taken h =
    let x = candidate at.scopes at.instance q found h.0 are h.1 in
    (x.0, x.1, subst (λ (d : Decl). Stands at d s) (sym x.2) h.2, taken ∙ ap Some h.3 ∙ ap (λ (d : Decl). Some (target_of at.scopes d)) (sym x.2))

pub field_says : (at : Standing) (q : QualName) (found : List Decl) (f : ℕ) → AreCandidates at.scopes at.instance q found → at.picks q.place ≡ Some (target.Field f) → (d : Decl) × Contains found d × (d ≡ decl.Field f) → FieldSays at q f
field_says at q found f are taken h =
    let x = candidate at.scopes at.instance q found h.0 are h.1 in
    (x.0, x.1, subst (λ (d : Decl). d ≡ decl.Field f) (sym x.2) h.2, taken)
