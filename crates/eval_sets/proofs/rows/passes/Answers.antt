use Rattle.eval_sets.proofs.rows.passes.Goals as goal

pub returns-in-BeginsIn : goal.returns-in-BeginsIn
returns-in-BeginsIn c =
    rw c.in-BeginsIn.is c.begins_in.ensures

pub returns-in-EndsIn : goal.returns-in-EndsIn
returns-in-EndsIn c =
    rw c.in-EndsIn.is c.ends_in.ensures
