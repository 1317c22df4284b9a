use Rattle.std.proofs.Common.{◌∙◌, w64, SFits, rules}
use Rattle.std.proofs.lemmas.Int.{to_z-of_z}
use Rattle.eval_steps.proofs.StepLaw.{sum_more, sum_all}
use Rattle.eval_steps.proofs.PartLaw.{wrapped_is}
use Rattle.eval_steps.proofs.rows.sum_of_rows.Goals as goal

pub loop-row-preserved : goal.loop-row-preserved
loop-row-preserved c =
    let fits : SFits w64 c.value_of-value.result = search rules in
    let fr : SFits w64 c.in_ok-sum.sum = search rules in
    let told = simp to_z-of_z at c.in_ok-sum.ensures in
    to_z-of_z w64 c.in_ok-sum.sum fr ∙ sum_more c.args.rows.now c.loop-row.row-index c.row-item.result c.value_of-value.result _ _ c.loop-row-test.true c.row-item.is c.value_of-value.ensures c.loop-row.invariant told

pub returns : goal.returns
returns c =
    wrapped_is c.setting-setting.result.now c.args.judge.now c.setting-setting.ensures _ _ c.in_ok-set.set (sum_all c.args.rows.now c.loop-row.row-index _ c.loop-row-test.false c.loop-row.invariant) c.in_ok-set.ensures
