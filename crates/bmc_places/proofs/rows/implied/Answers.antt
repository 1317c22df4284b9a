use Rattle.bmc_places.proofs.RowLaws.{implied_row}
use Rattle.bmc_places.proofs.rows.implied.Goals as goal

pub returns-clause-implied : goal.returns-clause-implied
returns-clause-implied g c =
    let value = g.G.Gates.node_value in
    implied_row (value c.args.gates.now) (value c.both.new.gates) c.args.f.now c.args.g.now c.in_ok-other.other c.in_ok-fails.fails c.in_ok-row.row c.in_ok-other.ensures.negated c.in_ok-fails.ensures.both c.in_ok-row.ensures.negated
