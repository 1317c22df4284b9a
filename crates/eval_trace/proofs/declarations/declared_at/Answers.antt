use Rattle.eval_tree.proofs.FoundLemmas.{said_true, said_false}
use Rattle.eval_trace.proofs.AllLaw.{all_sigs, all_fields}
use Rattle.eval_trace.proofs.declarations.declared_at.Goals as goal

pub returns-then-not-sigs : goal.returns-then-not-sigs
returns-then-not-sigs c =
    all_sigs c.args.judge.now c.args.position (said_false c.in_ok-sigs.sigs c.in_ok-sigs.ensures c.if-not-sigs.true)

pub returns : goal.returns
returns c =
    all_fields c.args.judge.now c.args.position (said_true c.in_ok-sigs.sigs c.in_ok-sigs.ensures c.if-not-sigs.false) c.in_ok-fields.fields c.in_ok-fields.ensures
