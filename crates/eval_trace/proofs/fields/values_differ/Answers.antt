use Rattle.std.proofs.Common.{◌∙◌, ◌∷◌, [], arith}
use Rattle.eval_tree.proofs.FoundLemmas.{said_true, said_false}
use Rattle.eval_tree.proofs.FrontLemmas.{fresh}
use Rattle.eval_trace.proofs.FieldLaw.{differ_none, values_none, values_more, values_fail, values_all}
use Rattle.eval_trace.proofs.fields.values_differ.Goals as goal

pub returns-then-arity-ne1 : goal.returns-then-arity-ne1
returns-then-arity-ne1 c =
    differ_none c.args.judge.now c.args.position c.args.place c.args.owner c.relation_at-found.result c.set_of-atoms.result.now c.set_of-atoms.ensures c.relation_at-found.ensures c.arity.ensures.set (λ e. c.if-arity-ne1.true (c.arity.ensures.columns ∙ e))

pub loop-number-init : goal.loop-number-init
loop-number-init c =
    values_none c.args.judge.now c.args.position c.args.place c.args.owner c.relation_at-found.result c.set_of-atoms.result.now c.set_of-atoms.ensures c.relation_at-found.ensures c.nothing-all.result c.nothing-all.ensures

pub returns-then-some : goal.returns-then-some
returns-then-some c =
    values_fail c.args.judge.now c.args.position c.args.place c.args.owner c.relation_at-found.result c.set_of-atoms.result.now c.set_of-atoms.ensures c.relation_at-found.ensures c.loop-number.number c.atom_at-atom.result (omega arith) c.atom_at-atom.ensures c.loop-number.all c.in_ok-value.value (fresh c.set_of-atoms.result.now c.loop-number.number (c.atom_at-atom.result ∷ []) c.arity.ensures.set c.atom_at-atom.ensures) c.loop-number.invariant c.in_ok-value.ensures (said_true c.in_ok-some.some c.in_ok-some.ensures c.if-some.true)

pub loop-number-preserved : goal.loop-number-preserved
loop-number-preserved c =
    values_more c.args.judge.now c.args.position c.args.place c.args.owner c.relation_at-found.result c.set_of-atoms.result.now c.set_of-atoms.ensures c.relation_at-found.ensures c.loop-number.number c.atom_at-atom.result (omega arith) c.atom_at-atom.ensures c.loop-number.all c.in_ok-value.value c.in_ok-more.more c.loop-number.invariant c.in_ok-value.ensures (said_false c.in_ok-some.some c.in_ok-some.ensures c.if-some.false) c.in_ok-more.ensures

pub returns : goal.returns
returns c =
    values_all c.args.judge.now c.args.position c.args.place c.args.owner c.relation_at-found.result c.set_of-atoms.result.now c.set_of-atoms.ensures c.relation_at-found.ensures c.loop-number.number (omega arith) c.loop-number.all c.loop-number.invariant
