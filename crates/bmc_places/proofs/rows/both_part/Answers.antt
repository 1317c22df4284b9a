use Rattle.std.proofs.Common.{◌+◌, ◌-◌}
use Rattle.bmc_places.proofs.RowLaws.{both_row}
use Rattle.bmc_places.proofs.rows.both_part.Goals as goal

pub returns-clause-both : goal.returns-clause-both
returns-clause-both g c =
    let value = g.G.Gates.node_value in
    both_row (value c.args.gates.now) (value c.both.new.gates) c.args.f.now c.args.nodes.now c.in_ok-there.there c.in_ok-row.row c.args.from (c.args.from + c.args.count - c.args.from) c.in_ok-there.ensures.part c.in_ok-row.ensures.both
