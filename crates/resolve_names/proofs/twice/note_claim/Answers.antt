use Rattle.resolve_names.proofs.twice.note_claim.Goals as goal

pub returns-in_ok-noted-in-Assert : goal.returns-in_ok-noted-in-Assert
returns-in_ok-noted-in-Assert c = rw c.in-Assert.is c.in_ok-noted-in-Assert.ensures
