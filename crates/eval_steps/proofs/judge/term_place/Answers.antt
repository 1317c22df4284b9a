use Rattle.std.proofs.Common.{◌-◌, ◌^◌, ◌<◌, ◌≤◌, arith}
use Rattle.core_tree.specs.Trees.{term_of}
use Rattle.core_meaning.specs.Meaning.{no_names}
use Rattle.eval_steps.specs.Judged.{Means}
use Rattle.eval_steps.proofs.Rounds.{same_truth}
use Rattle.eval_steps.proofs.judge.term_place.Goals as goal
use Rattle.core_window.specs.Repeats.{uncounted}

pub returns : goal.returns
returns c t =
    let few : c.term_repeats-rounds.result < 2 ^ 32 - 1 = omega arith in
    let small : c.term_repeats-rounds.result < uncounted = omega arith in
    let same : c.term_repeats-rounds.result ≤ c.term_repeats-rounds.result = omega arith in
    let again = c.term_repeats-rounds.ensures few c.period.ensures.loops in
    same_truth c.args.judge.now.lasso (λ j. Means c.args.judge.now (term_of c.args.expr.now) no_names j t) c.term_repeats-rounds.result c.folded.result c.args.position (λ j far. again c.term_repeats-rounds.result j same small far t) c.folded.ensures
