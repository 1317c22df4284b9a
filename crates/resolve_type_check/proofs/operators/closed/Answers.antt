use Rattle.std.proofs.Common.{IfSome, subst}
use Rattle.core_tree.specs.Types.{TypeRows}
use Rattle.resolve_type_check.specs.Closed.{AreWalks, IsClosed}
use Rattle.resolve_type_check.proofs.Results.{if_ok, if_some}
use Rattle.resolve_type_check.proofs.Monotone.{ended_closed}
use Rattle.resolve_type_check.proofs.operators.closed.Goals as goal

pub returns : goal.returns
returns c =
    let sigs = c.args.sigs.now in
    let rows = c.args.rows.now in
    let base = c.as_slice.result.now in
    if_ok c.all_walks.result (λ o. IfSome o (AreWalks sigs base)) (λ o. IfSome o (IsClosed sigs rows))
    (λ o h. if_some o (AreWalks sigs base) (IsClosed sigs rows) (λ w g. ended_closed sigs rows c.in_ok-base.base w c.in_ok-base.ensures (subst (λ (b : TypeRows). AreWalks sigs b w) c.as_slice.ensures g)) h) c.all_walks.ensures
