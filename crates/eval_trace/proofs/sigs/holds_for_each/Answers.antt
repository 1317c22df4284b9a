use Rattle.std.proofs.Common.{◌∙◌, arith}
use Rattle.eval_tree.proofs.FoundLemmas.{said_true, said_false}
use Rattle.eval_tree.proofs.FrontLemmas.{front_none, front_more}
use Rattle.eval_trace.proofs.SigLaw.{ForMember, no_member, member_fails, members_all}
use Rattle.eval_trace.proofs.sigs.holds_for_each.Goals as goal

pub returns-then-arity-ne1 : goal.returns-then-arity-ne1
returns-then-arity-ne1 c =
    no_member c.args.judge.now c.args.position c.args.place c.args.fact.now c.relation_at-found.result c.set_of-set.result.now c.set_of-set.ensures c.relation_at-found.ensures c.arity.ensures.set (λ e. c.if-arity-ne1.true (c.arity.ensures.columns ∙ e))

pub loop-number-init : goal.loop-number-init
loop-number-init c =
    front_none (ForMember c.args.judge.now c.args.position c.args.place c.args.fact.now) c.set_of-set.result.now.tuples

pub returns-then-not-truth : goal.returns-then-not-truth
returns-then-not-truth c =
    member_fails c.args.judge.now c.args.position c.args.place c.args.fact.now c.relation_at-found.result c.set_of-set.result.now c.set_of-set.ensures c.relation_at-found.ensures c.loop-number.number c.atom_at-atom.result (omega arith) c.atom_at-atom.ensures (said_false c.in_ok-truth.truth c.in_ok-truth.ensures c.if-not-truth.true)

pub loop-number-preserved : goal.loop-number-preserved
loop-number-preserved c =
    front_more (ForMember c.args.judge.now c.args.position c.args.place c.args.fact.now) c.set_of-set.result.now.tuples c.loop-number.number c.atom_at-atom.result c.loop-number.invariant (omega arith) c.atom_at-atom.ensures (said_true c.in_ok-truth.truth c.in_ok-truth.ensures c.if-not-truth.false)

pub returns : goal.returns
returns c =
    members_all c.args.judge.now c.args.position c.args.place c.args.fact.now c.relation_at-found.result c.set_of-set.result.now c.set_of-set.ensures c.relation_at-found.ensures c.loop-number.number (omega arith) c.loop-number.invariant
