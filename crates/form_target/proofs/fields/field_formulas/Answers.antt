use Rattle.form_target.proofs.Tails.{field_both}
use Rattle.form_target.proofs.fields.field_formulas.Goals as goal

pub returns : goal.returns
returns c = field_both c.args.model.now c.args.all.now.items c.apart_formulas.new.all.items c.alone.new.all.items c.args.number c.args.field.now c.in_ok-alone.ensures c.in_ok-apart_formulas.ensures
