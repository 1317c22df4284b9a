use Rattle.sat_solver.proofs.Searching.{indexed_by}
use Rattle.sat_solver.proofs.store.file_if.Goals as goal

pub add-requires-clause-variables : goal.add-requires-clause-variables
add-requires-clause-variables c = c.requires.indexed.variables

pub add-requires-clause-filed : goal.add-requires-clause-filed
add-requires-clause-filed c = c.requires.indexed.filed

pub returns-clause-indexed : goal.returns-clause-indexed
returns-clause-indexed c = indexed_by c.args.trail.now c.args.dropped.now c.add.new.self c.requires.indexed c.in_ok-is_filed.ensures.variables c.in_ok-is_filed.ensures.filed
