use Rattle.std.proofs.Common.{Contains, subst}
use Rattle.resolve_types.specs.Types.{Row}
use Rattle.resolve_told_types.proofs.Lists.{all_more, all_whole}
use Rattle.resolve_told_types.proofs.rows.has_rows.Goals as goal

pub loop-other-preserved : goal.loop-other-preserved
loop-other-preserved c =
    let here = subst (λ (r : Row). Contains c.args.rows.now r) c.as_slice.ensures (c.has_row.ensures c.if-not-has_row.false) in
    all_more (Contains c.args.rows.now) c.args.others.now c.loop-other.other-index c.other-item.result c.loop-other-test.true c.other-item.is c.loop-other.invariant here

pub returns : goal.returns
returns c = λ t. all_whole (Contains c.args.rows.now) c.args.others.now c.loop-other.other-index c.loop-other-test.false c.loop-other.invariant
