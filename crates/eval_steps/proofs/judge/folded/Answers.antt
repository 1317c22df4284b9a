use Rattle.eval_steps.proofs.Rounds.{folded_before, folded_after}
use Rattle.eval_steps.proofs.judge.folded.Goals as goal

pub returns : goal.returns
returns c =
    folded_after c.args.judge.now.lasso c.args.rounds c.args.position c.repeats_from-from.result c.period-round.result c.repeats_from-from.ensures.number c.period-round.ensures.number c.if-position-from.false

pub returns-then-position-from : goal.returns-then-position-from
returns-then-position-from c = folded_before c.args.judge.now.lasso c.args.rounds c.args.position
