use Rattle.eval_context.specs.Settings.{world}
use Rattle.eval_scopes.proofs.PlaceLaw.{fixed_stays}
use Rattle.eval_scopes.proofs.places.stays.Goals as goal

pub returns : goal.returns
returns c = fixed_stays (world c.args.setting.now) c.args.number c.args.is_var c.is_same.result c.if-is_var.false c.is_same.ensures
