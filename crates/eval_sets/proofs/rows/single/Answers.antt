use Rattle.std.proofs.Common.{◌∷◌, []}
use Rattle.eval_sets.proofs.RowLaw.{one_set}
use Rattle.eval_sets.proofs.rows.single.Goals as goal

pub returns : goal.returns
returns c =
    one_set c.empty-set.result c.put.new.set c.in_ok-row.row (c.args.number ∷ []) c.empty-set.ensures c.in_ok-row.ensures c.in_ok-put.ensures.ok
