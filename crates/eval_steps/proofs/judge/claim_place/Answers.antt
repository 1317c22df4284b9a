use Rattle.std.proofs.Common.{◌-◌, ◌^◌, ◌<◌, ◌≤◌, arith}
use Rattle.core_tree.specs.Trees.{claim_of}
use Rattle.core_meaning.specs.Meaning.{no_names}
use Rattle.eval_steps.specs.Judged.{HoldsIn}
use Rattle.eval_steps.proofs.Rounds.{same_truth}
use Rattle.eval_steps.proofs.judge.claim_place.Goals as goal
use Rattle.core_window.specs.Repeats.{uncounted}

pub returns : goal.returns
returns c =
    let few : c.claim_repeats-rounds.result < 2 ^ 32 - 1 = omega arith in
    let small : c.claim_repeats-rounds.result < uncounted = omega arith in
    let same : c.claim_repeats-rounds.result ≤ c.claim_repeats-rounds.result = omega arith in
    let again = c.claim_repeats-rounds.ensures few in
    same_truth c.args.judge.now.lasso (λ j. HoldsIn c.args.judge.now (claim_of c.args.formula.now) no_names j) c.claim_repeats-rounds.result c.folded.result c.args.position (λ j far. again c.claim_repeats-rounds.result j same small far) c.folded.ensures
