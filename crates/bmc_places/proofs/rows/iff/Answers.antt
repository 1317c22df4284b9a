use Rattle.bmc_leaves.proofs.RowLaws.{row_kept}
use Rattle.bmc_places.proofs.RowLaws.{iff_row}
use Rattle.bmc_places.proofs.rows.iff.Goals as goal

pub returns-clause-iff : goal.returns-clause-iff
returns-clause-iff g c =
    let value = g.G.Gates.node_value in
    let belongs = g.G.Gates.belongs in
    let old = c.args.gates.now in
    let mid = c.implied.new.gates in
    let last = c.implied-2.new.gates in
    iff_row (value old) (value mid) (value last) (value c.both.new.gates) c.args.f.now c.args.g.now c.in_ok-first.first c.in_ok-second.second c.in_ok-row.row
    (row_kept belongs value old mid c.implied.ensures.keeps c.args.f.now c.requires.f_belongs)
    (row_kept belongs value old mid c.implied.ensures.keeps c.args.g.now c.requires.g_belongs)
    (row_kept belongs value mid last c.implied-2.ensures.keeps c.in_ok-first.first c.in_ok-first.ensures.belongs)
    c.in_ok-first.ensures.implied c.in_ok-second.ensures.implied c.in_ok-row.ensures.both
