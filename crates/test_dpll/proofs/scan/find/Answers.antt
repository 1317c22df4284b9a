use Rattle.std.proofs.Common.{◌+◌, ◌∙◌, ap, sym, subst, refl, arith, Some}
use Rattle.test_dpll.specs.Scan.{IsFound}
use Rattle.test_dpll.proofs.Scanning.{found_status}
use Rattle.test_dpll.proofs.Solving.{get_there}
use Rattle.test_dpll.proofs.scan.find.Goals as goal

pub loop-place-preserved : goal.loop-place-preserved
loop-place-preserved c =
    subst (IsFound c.args.path.now c.args.clauses.now (c.loop-place.place + 1)) (sym c.with_status-found.ensures)
    (found_status c.args.path.now c.args.clauses.now c.literals.result.now c.loop-place.place (c.loop-place.place + 1) c.loop-place.found c.status_of-status.result refl
    (get_there c.args.clauses.now c.loop-place.place c.index-clauses-place.result (omega arith) c.index-clauses-place.is ∙ ap Some (sym c.literals.ensures.value))
    c.status_of-status.ensures c.loop-place.invariant)
