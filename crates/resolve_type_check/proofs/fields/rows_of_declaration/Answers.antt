use Rattle.std.proofs.Common.{◌≡◌, [], List, Option, IfSome, ap, ap₂, ◌∙◌, subst, length}
use Rattle.core_tree.specs.declared.model.Sig.{Sig}
use Rattle.core_tree.specs.Trees.{term_of}
use Rattle.core_tree.specs.Types.{TypeRows, no_rows, with_rows, sig_rows, row_pairs}
use Rattle.resolve_type_check.specs.declared.names.NamedRows.{NamedRows}
use Rattle.resolve_type_check.specs.Same.{SameRows}
use Rattle.resolve_type_check.specs.Names.{names_of, IsTypeOf}
use Rattle.resolve_type_check.proofs.FieldEnds.{declared_end}
use Rattle.resolve_type_check.proofs.fields.rows_of_declaration.Goals as goal

pub returns : goal.returns
returns c =
    let model = c.args.model.now in
    let e = term_of c.args.bound.now in
    let own = c.in_ok-own.own in
    let rows = c.in-Some.rows in
    let is = subst (λ (l : List Sig). SameRows own (sig_rows l (length l) c.args.owner)) c.as_slice-sigs.ensures c.in_ok-own.ensures in
    let none : c.as_slice-2.result.now ≡ [] = c.as_slice-2.ensures ∙ c.new.ensures in
    let named : names_of c.in_ok-this.this ≡ with_rows no_rows 0 own = ap names_of c.in_ok-this.ensures ∙ ap₂ (λ (l : List NamedRows) (r : TypeRows). with_rows (names_of l) 0 r) none c.as_slice-3.ensures in
    let typed = subst (λ (o : Option TypeRows). IfSome o (IsTypeOf model e (names_of c.in_ok-this.this))) c.in-Some.is (subst (λ (l : List NamedRows). IfSome c.in_ok-type_of.field-0 (IsTypeOf model e (names_of l))) c.as_slice-4.ensures c.in_ok-type_of.ensures) in
    declared_end model c.args.owner e own rows c.in_ok-product_type-in-Some.field-0 (names_of c.in_ok-this.this) is named typed
    (c.in_ok-product_type-in-Some.ensures ∙ ap₂ row_pairs c.as_slice-in-Some.ensures c.as_slice-in-Some-2.ensures)
