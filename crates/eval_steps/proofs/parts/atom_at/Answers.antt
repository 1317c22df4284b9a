use Rattle.eval_steps.proofs.PartLaw.{single_at}
use Rattle.eval_steps.proofs.parts.atom_at.Goals as goal

pub returns : goal.returns
returns c =
    single_at c.args.set.now c.args.place c.tuple-tuple.result.now c.numbers-numbers.result.now c.len.ensures.set c.requires.columns c.requires.place c.tuple-tuple.ensures c.numbers-numbers.ensures
