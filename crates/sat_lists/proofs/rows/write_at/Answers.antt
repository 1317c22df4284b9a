use Rattle.std.proofs.Common.{refl}
use Rattle.sat_lists.proofs.Holding.{rows_write}
use Rattle.sat_lists.proofs.rows.write_at.Goals as goal

pub returns : goal.returns
returns c = rows_write _ c.args.list c.args.place c.args.node c.index_mut-row.result.now _ c.requires.in_lists c.index_mut-row.ensures.value refl
