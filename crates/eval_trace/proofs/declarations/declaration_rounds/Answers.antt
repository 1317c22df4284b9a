use Rattle.std.proofs.Common.{rules}
use Rattle.eval_trace.proofs.RoundLaw.{all_repeat}
use Rattle.eval_trace.proofs.declarations.declaration_rounds.Goals as goal

pub returns : goal.returns
returns c =
    all_repeat c.args.judge.now c.fact_rounds-facts.result c.bound_rounds-bounds.result c.max.result (search rules) c.fact_rounds-facts.ensures c.bound_rounds-bounds.ensures
