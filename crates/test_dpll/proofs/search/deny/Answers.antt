use Rattle.test_dpll.proofs.Turning.{denied_added, denied_failed}
use Rattle.test_dpll.proofs.search.deny.Goals as goal

pub returns-in-Added : goal.returns-in-Added
returns-in-Added c =
    denied_added c.args.cnf.now.clauses c.args.log.now c.take.new.self c.args.path.now c.next_id-id.result c.in_ok-clause.clause c.in_ok-hints.hints c.args.first c.args.second c.requires.kept c.requires.follows
    c.next_id-id.ensures c.in_ok-clause.ensures c.in_ok-hints.ensures (rw c.in-Added.is at c.in_ok-taken.ensures.taken) (rw c.in-Added.is at (c.in_ok-taken.ensures.leaves c.args.cnf.now.clauses c.requires.kept.lemmas))

pub returns-in-Refuted : goal.returns-in-Refuted
returns-in-Refuted c = rw c.in-Refuted.is at (c.in_ok-taken.ensures.leaves c.args.cnf.now.clauses c.requires.kept.lemmas)

pub unreachable-requires : goal.unreachable-requires
unreachable-requires c =
    denied_failed c.args.cnf.now.clauses c.args.log.now c.take.new.self c.args.path.now c.next_id-id.result c.in_ok-clause.clause c.in_ok-hints.hints c.args.first c.args.second c.requires.kept c.requires.follows
    c.next_id-id.ensures c.in_ok-clause.ensures c.in_ok-hints.ensures (rw c.in-Failed.is at c.in_ok-taken.ensures.taken)
