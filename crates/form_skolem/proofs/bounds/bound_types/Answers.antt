use Rattle.std.proofs.Common.{List, subst}
use Rattle.resolve_type_check.specs.declared.names.NamedRows.{NamedRows}
use Rattle.resolve_type_check.specs.Names.{names_of}
use Rattle.form_skolem.specs.Steps.{IsBoundType}
use Rattle.form_skolem.proofs.Typing.{named_next, found_none, found_more, found_all}
use Rattle.form_skolem.proofs.bounds.bound_types.Goals as goal

pub loop-place-init : goal.loop-place-init
loop-place-init c = found_none c.args.model.now c.args.columns.now c.args.parameters.now c.new-names.result c.new-all.result.items c.requires.columns c.new-names.ensures c.new-all.ensures.items

pub loop-place-preserved : goal.loop-place-preserved
loop-place-preserved c =
    found_more c.args.model.now c.args.columns.now c.args.parameters.now c.loop-place.place c.index-parameters-place.result (names_of c.loop-place.names) (names_of c.in_ok-names.names) c.loop-place.all.items c.push.new.self.items c.in_ok-bound.bound
    c.loop-place-test.true c.index-parameters-place.is
    (subst (λ (ns : List NamedRows). IsBoundType c.args.model.now (names_of ns) c.args.columns.now c.loop-place.place c.index-parameters-place.result c.in_ok-bound.bound) c.as_slice.ensures c.in_ok-bound.ensures)
    (named_next c.loop-place.names c.as_slice-in-loop-place.result.now c.in_ok-names.names c.loop-place.place c.in_ok-bound.bound.rows c.as_slice-rows.result.now c.in_ok-names.ensures c.as_slice-in-loop-place.ensures c.as_slice-rows.ensures)
    c.in_ok-push.ensures.items c.loop-place.invariant

pub returns : goal.returns
returns c = found_all c.args.model.now c.args.columns.now c.args.parameters.now c.loop-place.place (names_of c.loop-place.names) c.loop-place.all.items c.loop-place-test.false c.loop-place.invariant
