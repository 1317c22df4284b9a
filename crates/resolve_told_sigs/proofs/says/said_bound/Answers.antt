use Rattle.core_tree.specs.Trees.{term_of}
use Rattle.resolve_told_sigs.proofs.Said.{bound_said}
use Rattle.resolve_told_sigs.proofs.says.said_bound.Goals as goal

pub returns-in-Some-2 : goal.returns-in-Some-2
returns-in-Some-2 c =
    bound_said c.args.names.now.scopes c.args.model.now c.args.readings.now c.args.instance c.in-Some.picks.now c.args.sig c.args.own.now c.in-Some-sig_type.this.now
    c.in-Some.ensures c.in-Some-sig_type.ensures c.args.written.now (term_of c.args.expr.now) c.in-Some-2.bound (c.in_ok-says_set.ensures c.if-not-branch.false)
    (rw c.in-Some-2.is at c.in_ok-bound_type.ensures)
