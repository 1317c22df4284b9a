use Rattle.std.proofs.Common.{◌≡◌, ◌∙◌, ◌+◌, ◌-◌, ◌^◌, ◌<◌, ℕ, ap, arith}
use Rattle.core_tree.specs.Trees.{claim_of}
use Rattle.eval_steps.proofs.Rounds.{limit_is}
use Rattle.eval_steps.proofs.judge.limit.Goals as goal
use Rattle.core_window.specs.Repeats.{uncounted}

pub returns-in-Some : goal.returns-in-Some
returns-in-Some c =
    let few : c.claim_repeats-rounds.result < 2 ^ 32 - 1 = omega arith in
    let small : c.claim_repeats-rounds.result < uncounted = omega arith in
    let sum : c.in-Some.end ≡ c.max.result + c.period-round.result = omega arith in
    limit_is c.args.judge.now (claim_of c.args.formula.now) c.args.scope.now c.claim_repeats-rounds.result c.args.position c.repeats_from-from.result c.period-round.result c.in-Some.end (c.claim_repeats-rounds.ensures few) small c.repeats_from-from.ensures.number c.period-round.ensures.number c.period-round.ensures.some (sum ∙ ap (λ (z : ℕ). z + c.period-round.result) c.max.ensures)
