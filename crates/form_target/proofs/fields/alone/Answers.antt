use Rattle.form_target.proofs.Tails.{alone_declared}
use Rattle.form_target.proofs.fields.alone.Goals as goal

pub returns-in_ok-declared_formulas-in-Some-declared : goal.returns-in_ok-declared_formulas-in-Some-declared
returns-in_ok-declared_formulas-in-Some-declared c = alone_declared c.args.model.now c.args.all.now.items c.declared_formulas.new.all.items c.args.number c.in-Some.owner c.args.field.now c.in-Some-declared.declared c.in-Some.is c.in-Some-declared.is c.in_ok-declared_formulas-in-Some-declared.ensures
