use Rattle.std.proofs.Common.{subst}
use Rattle.resolve_types.specs.Types.{Row}
use Rattle.resolve_told_types.specs.Kinds.{members_of}
use Rattle.resolve_told_types.specs.Steps.{IsGiven}
use Rattle.resolve_told_types.proofs.Lists.{all_more, all_whole}
use Rattle.resolve_told_types.proofs.types.are_given.Goals as goal

pub loop-row-preserved : goal.loop-row-preserved
loop-row-preserved c =
    let types = c.args.types.now in
    let parents = members_of c.args.parents.now in
    let here = subst (λ (r : Row). IsGiven types parents r) c.as_slice.ensures (c.is_given.ensures c.if-not-is_given.false) in
    all_more (IsGiven types parents) c.args.rows.now c.loop-row.row-index c.row-item.result c.loop-row-test.true c.row-item.is c.loop-row.invariant here

pub returns : goal.returns
returns c = λ t. all_whole (IsGiven c.args.types.now (members_of c.args.parents.now)) c.args.rows.now c.loop-row.row-index c.loop-row-test.false c.loop-row.invariant
