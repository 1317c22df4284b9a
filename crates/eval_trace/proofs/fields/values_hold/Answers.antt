use Rattle.std.proofs.Common.{◌∙◌, arith}
use Rattle.core_window.proofs.SameLemmas.{same_trans}
use Rattle.eval_tree.proofs.FoundLemmas.{said_true, said_false}
use Rattle.eval_tree.proofs.FrontLemmas.{front_none, front_more}
use Rattle.eval_trace.specs.Asked.{IsBounded}
use Rattle.eval_trace.proofs.FieldLaw.{bounded_none, bounded_fails, bounded_all, bounded_is}
use Rattle.eval_trace.proofs.fields.values_hold.Goals as goal

pub returns-then-arity-ne1 : goal.returns-then-arity-ne1
returns-then-arity-ne1 c =
    bounded_none c.args.judge.now c.args.position c.args.place c.args.owner c.relation_at-found.result c.set_of-atoms.result.now c.set_of-atoms.ensures c.relation_at-found.ensures c.args.bound.now c.arity.ensures.set (λ e. c.if-arity-ne1.true (c.arity.ensures.columns ∙ e))

pub loop-number-init : goal.loop-number-init
loop-number-init c =
    front_none (IsBounded c.args.judge.now c.args.position c.args.place c.args.bound.now) c.set_of-atoms.result.now.tuples

pub returns-then-not-within : goal.returns-then-not-within
returns-then-not-within c =
    bounded_fails c.args.judge.now c.args.position c.args.place c.args.owner c.relation_at-found.result c.set_of-atoms.result.now c.set_of-atoms.ensures c.relation_at-found.ensures c.args.bound.now c.loop-number.number c.atom_at-atom.result (omega arith) c.atom_at-atom.ensures
    (said_false c.in_ok-within.within (same_trans c.in_ok-within.ensures (bounded_is c.args.judge.now c.args.position c.args.place c.atom_at-atom.result c.args.bound.now c.in_ok-held.held c.set_of-value.result.now c.set_of-value.ensures c.in_ok-held.ensures)) c.if-not-within.true)

pub loop-number-preserved : goal.loop-number-preserved
loop-number-preserved c =
    front_more (IsBounded c.args.judge.now c.args.position c.args.place c.args.bound.now) c.set_of-atoms.result.now.tuples c.loop-number.number c.atom_at-atom.result c.loop-number.invariant (omega arith) c.atom_at-atom.ensures
    (said_true c.in_ok-within.within (same_trans c.in_ok-within.ensures (bounded_is c.args.judge.now c.args.position c.args.place c.atom_at-atom.result c.args.bound.now c.in_ok-held.held c.set_of-value.result.now c.set_of-value.ensures c.in_ok-held.ensures)) c.if-not-within.false)

pub returns : goal.returns
returns c =
    bounded_all c.args.judge.now c.args.position c.args.place c.args.owner c.relation_at-found.result c.set_of-atoms.result.now c.set_of-atoms.ensures c.relation_at-found.ensures c.args.bound.now c.loop-number.number (omega arith) c.loop-number.invariant
