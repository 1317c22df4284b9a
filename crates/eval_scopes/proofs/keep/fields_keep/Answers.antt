use Rattle.std.proofs.Common.{◌<◌, ◌≤◌, length, arith}
use Rattle.eval_scopes.proofs.KeepLaw.{fields_more, fields_no, fields_all}
use Rattle.eval_scopes.proofs.keep.fields_keep.Goals as goal

pub returns-then-not-good : goal.returns-then-not-good
returns-then-not-good c =
    let lt : c.loop-place.place < length c.model-model.result.now.fields = omega arith in
    fields_no c.args.setting.now c.model-model.result.now c.model-model.ensures.now c.loop-place.place c.get-field.result.now c.in_ok-good.good c.get-field.ensures c.in_ok-good.ensures c.if-not-good.true lt

pub loop-place-preserved : goal.loop-place-preserved
loop-place-preserved c =
    fields_more c.args.setting.now c.model-model.result.now c.model-model.ensures.now c.loop-place.place c.get-field.result.now c.in_ok-good.good c.get-field.ensures c.in_ok-good.ensures c.if-not-good.false c.loop-place.invariant

pub returns : goal.returns
returns c =
    let over : c.len-count.result ≤ c.loop-place.place = omega arith in
    fields_all c.args.setting.now c.model-model.result.now c.loop-place.place c.len-count.result c.model-model.ensures.now c.len-count.ensures over c.loop-place.invariant
