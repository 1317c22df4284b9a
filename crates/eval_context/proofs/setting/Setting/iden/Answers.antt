use Rattle.eval_context.specs.Settings.{world}
use Rattle.eval_context.proofs.SetLaw.{iden_is}
use Rattle.eval_context.proofs.setting.Setting.iden.Goals as goal

pub returns : goal.returns
returns c =
    iden_is (world c.args.self.now) c.args.position c.in_ok-identity.field-0 c.in_ok-all.all c.in_ok-all.ensures c.in_ok-identity.ensures
