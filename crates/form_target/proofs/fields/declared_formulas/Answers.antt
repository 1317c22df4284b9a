use Rattle.form_target.proofs.Tails.{field_parts}
use Rattle.form_target.proofs.fields.declared_formulas.Goals as goal

pub returns : goal.returns
returns c = field_parts c.args.model.now c.args.all.now.items c.apart_values.new.all.items c.args.number c.args.owner c.args.declared.now c.requires c.owned.new.all.items c.bounded.new.all.items c.in_ok-owned.ensures c.in_ok-bounded.ensures c.in_ok-apart_values.ensures
