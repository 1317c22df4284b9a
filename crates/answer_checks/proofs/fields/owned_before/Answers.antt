use Rattle.std.proofs.Common.{◌∙◌, subst}
use Rattle.std.specs.Prelude.{IsSome}
use Rattle.std.proofs.lemmas.Option.{get_or_from_slice_get}
use Rattle.core_tree.specs.declared.model.Field.{Field}
use Rattle.answer_checks.proofs.Lists.{front_more, front_all}
use Rattle.answer_checks.proofs.fields.owned_before.Goals as goal

pub loop-place-preserved : goal.loop-place-preserved
loop-place-preserved c =
    front_more (λ k (f : Field). IsSome f.owner) c.args.fields.now c.loop-place.place c.loop-place.invariant
    (λ x at. subst (λ (f : Field). IsSome f.owner) (c.index-fields-place.is ∙ get_or_from_slice_get c.args.fields.now c.loop-place.place x c.index-fields-place.result at) (c.is_owned-owned.ensures c.if-not-owned.false))

pub returns-clause-owned : goal.returns-clause-owned
returns-clause-owned c = λ g f low at. front_all (λ k (h : Field). IsSome h.owner) c.args.fields.now c.loop-place.place c.loop-place-test.false c.loop-place.invariant g f at
