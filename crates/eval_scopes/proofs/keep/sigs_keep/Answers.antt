use Rattle.std.proofs.Common.{◌<◌, ◌≤◌, length, arith}
use Rattle.eval_scopes.proofs.KeepLaw.{sigs_more, sigs_no, sigs_all}
use Rattle.eval_scopes.proofs.keep.sigs_keep.Goals as goal

pub returns-then-not-good : goal.returns-then-not-good
returns-then-not-good c =
    let lt : c.loop-place.place < length c.model-model.result.now.sigs = omega arith in
    sigs_no c.args.setting.now c.model-model.result.now c.scopes-scopes.result.now c.model-model.ensures.now c.scopes-scopes.ensures.now c.loop-place.place c.get-sig.result.now c.get-scope.result.now c.in_ok-good.good c.get-sig.ensures c.get-scope.ensures c.in_ok-good.ensures c.if-not-good.true lt

pub loop-place-preserved : goal.loop-place-preserved
loop-place-preserved c =
    sigs_more c.args.setting.now c.model-model.result.now c.scopes-scopes.result.now c.model-model.ensures.now c.scopes-scopes.ensures.now c.loop-place.place c.get-sig.result.now c.get-scope.result.now c.in_ok-good.good c.get-sig.ensures c.get-scope.ensures c.in_ok-good.ensures c.if-not-good.false c.loop-place.invariant

pub returns : goal.returns
returns c =
    let over : c.len-count.result ≤ c.loop-place.place = omega arith in
    sigs_all c.args.setting.now c.model-model.result.now c.loop-place.place c.len-count.result c.model-model.ensures.now c.len-count.ensures over c.loop-place.invariant
