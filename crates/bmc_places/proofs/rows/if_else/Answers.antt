use Rattle.bmc_leaves.proofs.RowLaws.{row_kept}
use Rattle.bmc_places.proofs.RowLaws.{else_row}
use Rattle.bmc_places.proofs.rows.if_else.Goals as goal

pub returns-clause-chooses : goal.returns-clause-chooses
returns-clause-chooses g c =
    let value = g.G.Gates.node_value in
    let belongs = g.G.Gates.belongs in
    let old = c.args.gates.now in
    let mid = c.implied.new.gates in
    let last = c.implied-2.new.gates in
    else_row (value old) (value mid) (value last) (value c.both.new.gates) c.args.f.now c.args.g.now c.args.h.now c.in_ok-first.first c.in_ok-other.other c.in_ok-second.second c.in_ok-row.row
    (row_kept belongs value old mid c.implied.ensures.keeps c.args.f.now c.requires.f_belongs)
    (row_kept belongs value old mid c.implied.ensures.keeps c.args.h.now c.requires.h_belongs)
    (row_kept belongs value mid last c.implied-2.ensures.keeps c.in_ok-first.first c.in_ok-first.ensures.belongs)
    c.in_ok-first.ensures.implied c.in_ok-other.ensures.negated c.in_ok-second.ensures.implied c.in_ok-row.ensures.both
