use Rattle.std.proofs.Common.{◌-◌, ◌^◌, ◌<◌, arith}
use Rattle.eval_steps.proofs.judge.term_repeats.Goals as goal

pub returns : goal.returns
returns c few =
    let low : c.scope_rounds-names.result < 2 ^ 32 - 1 = omega (arith, c.expr_rounds.ensures.more) in
    c.expr_rounds.ensures.repeats c.args.scope.now few (c.scope_rounds-names.ensures low)
