use Rattle.std.proofs.Common.{◌≡◌, ◌≤◌, List, length, Option, IfSome, refl, sym, ap, ap₂, ◌∙◌, subst, arith}
use Rattle.std.proofs.lemmas.Option.{slice_get_read}
use Rattle.core_tree.specs.Trees.{term_of}
use Rattle.core_tree.specs.Types.{TypeRows, with_rows}
use Rattle.resolve_type_check.specs.declared.names.NamedRows.{NamedRows}
use Rattle.resolve_type_check.specs.Names.{names_of}
use Rattle.bound_laws.specs.Placed.{IsKnownType}
use Rattle.answer_checks.proofs.Placings.{after_more, after_all}
use Rattle.answer_checks.proofs.fields.names_after.Goals as goal

pub loop-variable-init : goal.loop-variable-init
loop-variable-init c = ap names_of (sym c.in_ok-inner.ensures)

pub loop-variable-preserved : goal.loop-variable-preserved
loop-variable-preserved c =
    let model = c.args.model.now in
    let xs = c.args.list.now in
    let v = c.variable-item.result in
    let bound = subst (λ (l : List NamedRows). IsKnownType model c.args.known (names_of l) (term_of v.bound) c.in-Some.rows) c.as_slice.ensures (subst (λ (o : Option TypeRows). IfSome o (IsKnownType model c.args.known (names_of c.as_slice.result.now) (term_of v.bound))) c.in-Some.is c.in_ok-known_type.ensures) in
    let named : names_of c.in_ok-inner-in-Some.inner ≡ with_rows (names_of c.loop-variable.inner) v.name c.in-Some.rows = ap names_of c.in_ok-inner-in-Some.ensures ∙ ap₂ (λ (l : List NamedRows) (r : TypeRows). with_rows (names_of l) v.name r) c.as_slice-in-Some.ensures c.as_slice-in-Some-2.ensures in
    after_more model c.args.known xs c.loop-variable.variable-index v (names_of c.args.names.now) (names_of c.loop-variable.inner) (names_of c.in_ok-inner-in-Some.inner) c.in-Some.rows
    (slice_get_read xs (length xs) c.loop-variable.variable-index v refl c.loop-variable-test.true c.variable-item.is) c.loop-variable.invariant bound named

pub returns : goal.returns
returns c =
    let high : length c.args.list.now ≤ c.loop-variable.variable-index = omega (arith, c.loop-variable-test.false) in
    after_all c.args.model.now c.args.known c.args.list.now c.loop-variable.variable-index (names_of c.args.names.now) (names_of c.loop-variable.inner) high c.loop-variable.invariant
