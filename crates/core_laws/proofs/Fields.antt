-- Fields lie in their upper bounds, from those that come first in an order of the fields.
use Rattle.std.proofs.Common.{◌≡◌, ◌↔◌, ℕ, zero, suc, ◌+◌, ◌<◌, [], ◌∷◌, length, Contains, Option, Some, None, refl, sym, subst, arith}
use Rattle.std.specs.Prelude.{IsSome, IfSome}
use Rattle.core_tree.specs.declared.model.Model.{Model}
use Rattle.core_tree.specs.declared.model.Field.{Field}
use Rattle.core_tree.specs.Trees.{term_of}
use Rattle.core_tree.specs.Types.{TypeRow, TypeRows, sig_rows, with_rows, no_rows, rows_in, result_rows}
use Rattle.core_tree.specs.Models.{IsModel, IsRightBound, IsRightSig, this_column, declared_rows}
use Rattle.core_meaning.specs.declared.scopes.Scopes.{Scopes}
use Rattle.core_meaning.specs.Sequence.{LassoValue}
use Rattle.core_meaning.specs.World.{InRelation}
use Rattle.core_meaning.specs.Meaning.{no_names, atom}
use Rattle.core_meaning.specs.Declarations.{FieldDeclared, this_is}
use Rattle.core_meaning.specs.Called.{bodies_of}
use Rattle.core_meaning.specs.Kept.{world_of}
use Rattle.core_laws.specs.Typed.{IsOwned, BoundsNameOwned, FieldsLieInBounds, IsTypedLasso, ColumnsHaveAtoms, SigsHaveRows, FieldsHaveRows, SigsOfOneAtom}
use Rattle.core_laws.proofs.Members.{of_contains, to_contains}
use Rattle.core_laws.proofs.Climbs.{IsTree, get_there, item_of}
use Rattle.core_laws.proofs.Held.{IsGiven, atom_in, row_bound, under_ever}
use Rattle.core_laws.proofs.Rows.{InRows, rows_pair}
use Rattle.core_laws.proofs.Terms.{IsTyped, NamesHave, names_more, atom_rows, sig_rows_have, term_typed}

some_of : {X : Type 0} (o : Option X) → IsSome o → (x : X) × (o ≡ Some x)
some_of (Some x) is = (x, refl)
some_of None is = cc

if_some : {X : Type 0} (o : Option X) (x : X) (P : X → Type 0) → IfSome o P → o ≡ Some x → P x
if_some o x P has is = subst (λ p. IfSome p P) is has

module _ (model : Model) (scopes : Scopes) (lasso : LassoValue) (right : IsModel model) (owned : BoundsNameOwned model) (given : IsGiven model scopes lasso) where
  -- nothing has no name
  nothing : NamesHave model scopes lasso given no_rows no_names
  nothing x j t none = elim none [ ]

  field_known : (n k : ℕ) → right.order k < n → IsOwned model k → IsTyped model scopes lasso given k
  field_known zero k less is f get i t has = absurd (omega (arith, less))
  field_known (suc n) k less (g, there, own) f get i t has =
      let same : g ≡ f = cc in
      let at = right.fields k f get in
      let (s, owner) = some_of f.owner (subst (λ (h : Field). IsSome h.owner) same own) in
      let (d, declared) = some_of f.declared (at.declared.1 (subst (λ (h : Field). IsSome h.owner) same own)) in
      let said : FieldDeclared model (world_of scopes lasso) (bodies_of (world_of scopes lasso) model.bodies) i k f s d = (given.declared i).fields k f s d get owner declared in
      let (a, u, is, in_sig) = said.owned t has in
      let inside = said.bounded a in_sig u (subst (λ v. InRelation (world_of scopes lasso) (length model.sigs + k) i v) is has) in
      let low : s < length model.sigs = if_some f.owner s (λ o. o < length model.sigs) at.owner owner in
      let (e, sig_there) = get_there model.sigs s low in
      let rows : TypeRows = sig_rows model.sigs (length model.sigs) s in
      let first = sig_rows_have model scopes lasso given i s a e sig_there in_sig in
      let names = names_more model scopes lasso given no_rows no_names 0 rows (atom a) nothing (atom_rows model scopes lasso given rows a first) in
      let one = if_some f.declared d (λ b. IsRightBound model (λ h. right.order h < right.order k) b.bound this_column) at.bound declared in
      let second = term_typed model scopes lasso given (λ h. right.order h < right.order k) (IsOwned model) (λ h lower is_owned. field_known n h (omega (arith, lower, less)) is_owned) (term_of d.bound.expr) this_column (with_rows no_rows 0 rows) (this_is a) one.0 (owned k f d get declared).0 names i u inside in
      let (r, among, row) = rows_pair model scopes lasso rows (rows_in model.sigs model.fields (result_rows model) (term_of d.bound.expr) (with_rows no_rows 0 rows)) (a ∷ []) u first second in
      let typed = if_some f.declared d (λ b. (q : TypeRow) → Contains f.rows q ↔ Contains (declared_rows model s (term_of b.bound.expr)) q) (if_some f.owner s (λ o. IfSome f.declared (λ b. (q : TypeRow) → Contains f.rows q ↔ Contains (declared_rows model o (term_of b.bound.expr)) q)) at.typed owner) declared in
      let listed = (typed r).1 (to_contains (declared_rows model s (term_of d.bound.expr)) r among) in
      subst (InRows model scopes lasso f.rows) (sym is) (r, of_contains f.rows r listed, row)

pub given_of : (model : Model) (scopes : Scopes) (lasso : LassoValue) → IsTypedLasso model scopes lasso → IsGiven model scopes lasso
given_of model scopes lasso typed = record {
  tree = record {
    above = typed.kept.hierarchy;
    parents = λ s d there. (item_of model.sigs s d (IsRightSig model) typed.kept.sigs there).parents;
    plain = typed.plain;
  };
  rightly = typed.rightly;
  fits = typed.fits;
  sets = typed.sets;
  keeps = typed.keeps;
  declared = typed.declared;
}

pub columns_have_atoms : ColumnsHaveAtoms
columns_have_atoms model scopes lasso typed s a has = atom_in model scopes lasso (given_of model scopes lasso typed) s a has

pub sigs_have_rows : SigsHaveRows
sigs_have_rows model scopes lasso typed s d get i a has =
    let (r, among, row) = sig_rows_have model scopes lasso (given_of model scopes lasso typed) i s a d get has in
    (r, to_contains (sig_rows model.sigs (length model.sigs) s) r among, row)

pub fields_have_rows : FieldsHaveRows
fields_have_rows model scopes lasso typed k f get own i t has =
    let (r, among, row) = field_known model scopes lasso typed.kept typed.named (given_of model scopes lasso typed) (suc (typed.kept.order k)) k (omega arith) (f, get, own) f get i t has in
    (r, to_contains f.rows r among, row)

pub sigs_of_one_atom : SigsOfOneAtom
sigs_of_one_atom model scopes lasso typed a c d one two = under_ever model scopes lasso (given_of model scopes lasso typed) a c d one two

pub fields_lie : FieldsLieInBounds
fields_lie model scopes lasso right plain owned rightly fits sets keeps declared k f get own i t has =
    let tree : IsTree model.sigs = record {
      above = right.hierarchy;
      parents = λ s d there. (item_of model.sigs s d (IsRightSig model) right.sigs there).parents;
      plain = plain;
    } in
    let given : IsGiven model scopes lasso = record { tree = tree; rightly = rightly; fits = fits; sets = sets; keeps = keeps; declared = declared } in
    let (r, among, row) = field_known model scopes lasso right owned given (suc (right.order k)) k (omega arith) (f, get, own) f get i t has in
    (r, to_contains f.rows r among, row_bound model scopes lasso given r t row)
