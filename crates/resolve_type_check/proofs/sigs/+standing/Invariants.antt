use Rattle.resolve_type_check.proofs.sigs.+standing.Given as goal

abbrev pub decreases-standing : goal.decreases-standing
decreases-standing l = l.steps
