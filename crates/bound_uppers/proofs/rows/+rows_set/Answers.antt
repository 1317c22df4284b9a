use Rattle.std.proofs.Common.{sym}
use Rattle.bound_uppers.proofs.Filling.{rows_both}
use Rattle.bound_uppers.proofs.rows.+rows_set.Goals as goal

pub returns : goal.returns
returns t c = rows_both c.args.sets.now c.args.arity c.args.rows.now c.split_at.result.0.now c.split_at.result.1.now c.in_ok-first.first c.in_ok-second.second c.in_ok-both.both (sym c.split_at.ensures.by_index.0) c.in_ok-first.ensures c.in_ok-second.ensures c.in_ok-both.ensures
