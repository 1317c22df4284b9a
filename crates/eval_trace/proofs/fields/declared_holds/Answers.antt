use Rattle.eval_tree.proofs.FoundLemmas.{said_true, said_false}
use Rattle.eval_trace.proofs.FieldLaw.{field_owned, field_bounded, field_differ, field_all}
use Rattle.eval_trace.proofs.fields.declared_holds.Goals as goal

pub returns-then-not-owned : goal.returns-then-not-owned
returns-then-not-owned c =
    λ is. field_owned c.args.judge.now c.args.position c.args.place c.args.field.now c.args.owner c.args.declared.now is (said_false c.in_ok-owned.owned c.in_ok-owned.ensures c.if-not-owned.true)

pub returns-then-not-bounded : goal.returns-then-not-bounded
returns-then-not-bounded c =
    λ is. field_bounded c.args.judge.now c.args.position c.args.place c.args.field.now c.args.owner c.args.declared.now is (said_false c.in_ok-bounded.bounded c.in_ok-bounded.ensures c.if-not-bounded.true)

pub returns-then-not-differ : goal.returns-then-not-differ
returns-then-not-differ c =
    λ is. field_differ c.args.judge.now c.args.position c.args.place c.args.field.now c.args.owner c.args.declared.now is (said_false c.in_ok-differ.differ c.in_ok-differ.ensures c.if-not-differ.true)

pub returns : goal.returns
returns c =
    λ is. field_all c.args.judge.now c.args.position c.args.place c.args.field.now c.args.owner c.args.declared.now is (said_true c.in_ok-owned.owned c.in_ok-owned.ensures c.if-not-owned.false) (said_true c.in_ok-bounded.bounded c.in_ok-bounded.ensures c.if-not-bounded.false) (said_true c.in_ok-differ.differ c.in_ok-differ.ensures c.if-not-differ.false) c.in_ok-alone.alone (c.in_ok-alone.ensures c.args.owner (said_true c.in_ok-owned.owned c.in_ok-owned.ensures c.if-not-owned.false))
