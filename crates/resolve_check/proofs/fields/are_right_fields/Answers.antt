use Rattle.std.proofs.Common.{sym, subst, ◌∙◌, arith}
use Rattle.std.proofs.lemmas.Option.{same_Some}
use Rattle.core_tree.specs.declared.model.Field.{Field}
use Rattle.resolve_check.specs.Fits.{order_of}
use Rattle.resolve_check.specs.Kept.{IsFieldButType}
use Rattle.resolve_check.proofs.Falling.{front_more, front_all}
use Rattle.resolve_check.proofs.fields.are_right_fields.Goals as goal

pub loop-place-preserved : goal.loop-place-preserved
loop-place-preserved c = front_more (λ k (f : Field). IsFieldButType c.args.model.now (order_of c.args.shape.now) k f) c.args.model.now.fields c.loop-place.place c.loop-place.invariant (λ x at. subst (λ (f : Field). IsFieldButType c.args.model.now (order_of c.args.shape.now) c.loop-place.place f) (same_Some c.get-field.result.now x (sym c.get-field.ensures ∙ at)) (c.in_ok-is_right_field.ensures c.if-not-branch.false))

pub returns : goal.returns
returns c = λ t. front_all (λ k (f : Field). IsFieldButType c.args.model.now (order_of c.args.shape.now) k f) c.args.model.now.fields c.loop-place.place (omega arith) c.loop-place.invariant
