use Rattle.std.proofs.Common.{◌≡◌, ◌+◌, arith}
use Rattle.eval_scopes.proofs.KeepLaw.{field_is}
use Rattle.eval_scopes.proofs.keep.field_keeps.Goals as goal

pub returns-in_ok-all-in-Some : goal.returns-in_ok-all-in-Some
returns-in_ok-all-in-Some c =
    let sum : c.in-Some.number ≡ c.len.result + c.args.place = omega arith in
    field_is c.args.setting.now c.model-model.result.now c.args.place c.len.result c.in-Some.number c.args.field.now c.stays.result c.model-model.ensures.now c.len.ensures sum c.stays.ensures
