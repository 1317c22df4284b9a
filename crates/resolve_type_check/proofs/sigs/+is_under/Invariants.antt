use Rattle.resolve_type_check.proofs.sigs.+is_under.Given as goal

abbrev pub decreases-is_under : goal.decreases-is_under
decreases-is_under l = l.steps
