use Rattle.sat_lists.proofs.Holding.{rows_same, rows_push, on_err}
use Rattle.sat_lists.proofs.rows.push_at.Goals as goal

pub returns-in_err-push-clause-err : goal.returns-in_err-push-clause-err
returns-in_err-push-clause-err c =
    on_err c.from_residual.result (rows_same _ c.args.list c.index_mut.result.now c.push.new.self c.requires c.index_mut.ensures.value c.in_err-push.ensures.items)

pub returns-clause-ok : goal.returns-clause-ok
returns-clause-ok c =
    rows_push _ c.args.list c.args.node c.index_mut.result.now c.push.new.self c.requires c.index_mut.ensures.value c.in_ok-push.ensures.items
