use Rattle.eval_trace.specs.Asked.{AreDifferent}
use Rattle.eval_trace.proofs.FieldLaw.{not_asked, asked_for}
use Rattle.eval_trace.proofs.fields.values_apart.Goals as goal

pub returns-then-not-asked : goal.returns-then-not-asked
returns-then-not-asked c =
    not_asked c.args.asked (AreDifferent c.args.judge.now c.args.position c.args.place c.args.owner) c.if-not-asked.true

pub returns : goal.returns
returns c =
    asked_for c.args.asked (AreDifferent c.args.judge.now c.args.position c.args.place c.args.owner) c.if-not-asked.false c.in_ok-differ.differ c.in_ok-differ.ensures
