use Rattle.eval_tree.proofs.FoundLemmas.{said_true, said_false}
use Rattle.eval_trace.proofs.SigLaw.{filled_fails, filled_not_asked, filled_childless, filled_by}
use Rattle.eval_trace.proofs.sigs.children_hold.Goals as goal

pub returns-in-None : goal.returns-in-None
returns-in-None c =
    filled_fails c.args.judge.now c.args.position c.args.parent c.args.sig.now (rw c.in-None.is at c.in_ok-found.ensures)

pub returns-then-not-sig : goal.returns-then-not-sig
returns-then-not-sig c =
    filled_not_asked c.args.judge.now c.args.position c.args.parent c.args.sig.now (rw c.in-Some.is at c.in_ok-found.ensures).0 c.if-not-sig.true

pub returns-then-not-some : goal.returns-then-not-some
returns-then-not-some c =
    filled_childless c.args.judge.now c.args.position c.args.parent c.args.sig.now (rw c.in-Some.is at c.in_ok-found.ensures).0 (said_false c.has_child-some.result c.has_child-some.ensures c.if-not-some.true)

pub returns-else-not-some : goal.returns-else-not-some
returns-else-not-some c =
    filled_by c.args.judge.now c.args.position c.args.parent c.args.sig.now (rw c.in-Some.is at c.in_ok-found.ensures).0 c.if-not-sig.false (said_true c.has_child-some.result c.has_child-some.ensures c.if-not-some.false) c.relation_at-set.result c.in-Some.all c.relation_at-set.ensures (rw c.in-Some.is at c.in_ok-found.ensures).1 c.is_inside.result c.is_inside.ensures
