use Rattle.std.proofs.Common.{take}
use Rattle.sat_solver.specs.News.{AreAllFilled}
use Rattle.answer_search.proofs.written.are_filled.Given as goal

abbrev pub invariant-loop-clause : goal.invariant-loop-clause
invariant-loop-clause l = AreAllFilled (take l.clause-index l.clauses)
