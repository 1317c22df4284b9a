use Rattle.std.proofs.Common.{◌≤◌, length, arith}
use Rattle.eval_context.specs.Settings.{world}
use Rattle.eval_scopes.proofs.PlaceLaw.{loop_of, count_of, same_no, same_yes, each_more}
use Rattle.eval_scopes.proofs.places.is_same.Goals as goal

pub returns-then-not-has_all : goal.returns-then-not-has_all
returns-then-not-has_all c =
    same_no (world c.args.setting.now) c.args.number c.has_all.result c.args.all.now c.loop-position.position c.requires c.if-not-has_all.true c.has_all.ensures

pub loop-position-preserved : goal.loop-position-preserved
loop-position-preserved c =
    each_more (world c.args.setting.now) c.args.number c.has_all.result c.args.all.now c.loop-position.position c.if-not-has_all.false c.has_all.ensures c.loop-position.invariant

pub returns : goal.returns
returns c =
    let some = loop_of c.lasso-lasso.result.now c.args.setting.now.lasso c.states-states.result c.lasso-lasso.ensures.now c.states-states.ensures.count c.states-states.ensures.some in
    let count = count_of c.lasso-lasso.result.now c.args.setting.now.lasso c.states-states.result c.lasso-lasso.ensures.now c.states-states.ensures.count in
    let over : length c.args.setting.now.lasso.states ≤ c.loop-position.position = omega (arith, count) in
    same_yes (world c.args.setting.now) c.args.number c.args.all.now c.loop-position.position some over c.requires c.loop-position.invariant
