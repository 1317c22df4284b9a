use Rattle.sat_solver.proofs.Marking.{drops_by}
use Rattle.sat_solver.proofs.Searching.{search_fewer}
use Rattle.sat_solver.proofs.store.reduce.Goals as goal

pub returns-clause-search : goal.returns-clause-search
returns-clause-search c = λ formula lines state h.
    let s = c.args.trail.now in
    let t = c.detach.new.self in
    let e = c.file_picked.new.dropped in
    search_fewer s t formula lines state c.args.store.now.first c.args.store.now.dropped e c.detach.ensures.clauses.0 c.detach.ensures.clauses.1 c.detach.ensures.clauses.2 c.detach.ensures.assignment.0 c.detach.ensures.assignment.1
    (drops_by s t c.args.store.now.first e c.as_slice-2.result.now c.in_ok-marks.marks.items c.as_slice-2.ensures.value c.detach.ensures.attached c.detach.ensures.only c.in_ok-marks.ensures.marked) c.in_ok-marks.ensures.kept c.in_ok-marks.ensures.indexed h
