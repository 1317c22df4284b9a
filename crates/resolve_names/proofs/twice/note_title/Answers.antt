use Rattle.resolve_names.proofs.twice.note_title.Goals as goal

pub returns-in_ok-noted-in-Some : goal.returns-in_ok-noted-in-Some
returns-in_ok-noted-in-Some c = rw c.in-Some.is c.in_ok-noted-in-Some.ensures
