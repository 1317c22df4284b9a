use Rattle.std.proofs.Common.{refl, sym}
use Rattle.form_skolem.specs.Opened.{labels}
use Rattle.form_skolem.specs.Steps.{atom, with_type}
use Rattle.form_skolem.proofs.Opening.{turn_made}
use Rattle.form_skolem.proofs.open.field_of.Goals as goal

pub returns-then-not-is_relation : goal.returns-then-not-is_relation
returns-then-not-is_relation c = atom (sym c.if-not-is_relation.ensures) refl

pub returns : goal.returns
returns c = turn_made (labels c.args.sigs.now c.args.fields.now) (with_type c.args.parameter.now c.args.bound.now) c.args.fields.now c.add_field.new.fields c.len-count.result c.len-count.ensures c.if-not-is_relation.ensures c.in_ok-add_field.ensures
