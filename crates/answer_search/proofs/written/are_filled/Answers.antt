use Rattle.answer_search.proofs.FilledLaw.{filled_all}
use Rattle.answer_search.proofs.written.are_filled.Goals as goal

pub returns : goal.returns
returns c = λ t. filled_all c.args.clauses.now c.loop-clause.clause-index c.loop-clause-test.false c.loop-clause.invariant
