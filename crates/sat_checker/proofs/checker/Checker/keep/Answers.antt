use Rattle.std.proofs.Common.{ap}
use Rattle.sat_lrat.specs.Step.{State}
use Rattle.sat_checker.proofs.Standing.{view_inserted}
use Rattle.sat_checker.proofs.checker.Checker.keep.Goals as goal

pub returns-clause-kept : goal.returns-clause-kept
returns-clause-kept c =
    rw (← c.self.view_is, ← c.literals-literals.ensures.value)
    (ap (λ s. let t : State = record { standing = s; top = c.args.id } in t) (view_inserted _ _ _ _ c.in_ok-insert.ensures.put))
