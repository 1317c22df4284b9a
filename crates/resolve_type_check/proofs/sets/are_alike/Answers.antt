use Rattle.std.proofs.Common.{sym, ◌∙◌, arith}
use Rattle.resolve_type_check.proofs.Added.{alike_more}
use Rattle.resolve_type_check.proofs.Typing.{take_all}
use Rattle.resolve_type_check.proofs.sets.are_alike.Goals as goal

pub loop-place-preserved : goal.loop-place-preserved
loop-place-preserved c = alike_more c.args.rows.now c.args.others.now c.loop-place.place c.index-rows-place.result c.index-others-place.result (omega arith) (omega arith) c.index-rows-place.is c.index-others-place.is c.loop-place.invariant (c.is_alike.ensures c.if-not-is_alike.false)

pub returns : goal.returns
returns c = λ t. sym (take_all c.args.rows.now c.loop-place.place (omega arith)) ∙ c.loop-place.invariant ∙ take_all c.args.others.now c.loop-place.place (omega arith)
