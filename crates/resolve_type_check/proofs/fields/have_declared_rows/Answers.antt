use Rattle.resolve_type_check.specs.Typed.{HasDeclaredRows}
use Rattle.resolve_type_check.proofs.FieldEnds.{all_more, all_whole}
use Rattle.resolve_type_check.proofs.fields.have_declared_rows.Goals as goal

pub loop-field-preserved : goal.loop-field-preserved
loop-field-preserved c = all_more (HasDeclaredRows c.args.model.now) c.args.fields.now c.loop-field.field-index c.field-item.result c.loop-field-test.true c.field-item.is c.loop-field.invariant (c.in_ok-has_declared_rows.ensures c.if-not-branch.false)

pub returns : goal.returns
returns c = λ t. all_whole (HasDeclaredRows c.args.model.now) c.args.fields.now c.loop-field.field-index c.loop-field-test.false c.loop-field.invariant
