use Rattle.std.proofs.Common.{◌+◌, ◌-◌}
use Rattle.bmc_leaves.proofs.RowLaws.{row_kept}
use Rattle.bmc_places.proofs.RowLaws.{held_row}
use Rattle.bmc_places.proofs.rows.held_where.Goals as goal

pub returns-clause-held : goal.returns-clause-held
returns-clause-held g c =
    let value = g.G.Gates.node_value in
    let belongs = g.G.Gates.belongs in
    let old = c.args.gates.now in
    let mid = c.both.new.gates in
    held_row (value old) (value mid) (value c.both-2.new.gates) c.args.f.now c.args.g.now c.args.nodes.now c.in_ok-other.other c.in_ok-there.there c.in_ok-fails.fails c.in_ok-stays.stays c.in_ok-row.row c.args.from (c.args.from + c.args.count - c.args.from)
    (row_kept belongs value old mid c.both.ensures.keeps c.args.f.now c.requires.f_belongs)
    c.in_ok-other.ensures.negated c.in_ok-there.ensures.part c.in_ok-fails.ensures.both c.in_ok-stays.ensures.negated c.in_ok-row.ensures.both
