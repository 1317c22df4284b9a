use Rattle.std.proofs.Common.{◌≤◌, length, arith}
use Rattle.eval_context.specs.Settings.{world}
use Rattle.eval_scopes.proofs.PlaceLaw.{loop_of, count_of, until_none, until_more, until_all}
use Rattle.eval_scopes.proofs.places.ever.Goals as goal

pub loop-position-init : goal.loop-position-init
loop-position-init c = until_none (world c.args.setting.now) c.args.number c.empty_of-all.result c.empty_of-all.ensures

pub loop-position-preserved : goal.loop-position-preserved
loop-position-preserved c =
    until_more (world c.args.setting.now) c.args.number c.loop-position.position c.loop-position.all c.in_ok-all.all c.loop-position.invariant c.in_ok-all.ensures

pub returns : goal.returns
returns c =
    let some = loop_of c.lasso-lasso.result.now c.args.setting.now.lasso c.states-states.result c.lasso-lasso.ensures.now c.states-states.ensures.count c.states-states.ensures.some in
    let count = count_of c.lasso-lasso.result.now c.args.setting.now.lasso c.states-states.result c.lasso-lasso.ensures.now c.states-states.ensures.count in
    let over : length c.args.setting.now.lasso.states ≤ c.loop-position.position = omega (arith, count) in
    until_all (world c.args.setting.now) c.args.number c.loop-position.position c.loop-position.all some over c.loop-position.invariant
