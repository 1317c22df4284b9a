use Rattle.std.proofs.Common.{arith}
use Rattle.sat_lists.proofs.Holding.{rows_cut}
use Rattle.sat_lists.proofs.rows.cut_at.Goals as goal

pub returns-then-list-len : goal.returns-then-list-len
returns-then-list-len c =
    rows_cut _ c.args.list c.args.len c.index_mut.result.now c.truncate.new.self (omega (arith, c.if-list-len.true, c.len.ensures, c.args.lists.now.ok.0)) c.index_mut.ensures.value c.truncate.ensures.items
