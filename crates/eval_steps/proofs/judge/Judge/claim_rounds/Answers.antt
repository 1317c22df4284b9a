use Rattle.std.proofs.Common.{subst, arith}
use Rattle.core_tree.specs.Trees.{claim_of}
use Rattle.eval_context.specs.Settings.{SettingValue}
use Rattle.eval_calls.specs.Weight.{AreWeighed}
use Rattle.eval_steps.proofs.Rounds.{claim_repeats}
use Rattle.eval_steps.proofs.judge.Judge.claim_rounds.Goals as goal

pub returns-in-Some-clause-repeats : goal.returns-in-Some-clause-repeats
returns-in-Some-clause-repeats c scope few again =
    claim_repeats c.args.self.now c.self.inside.weights.items (subst (λ (z : SettingValue). AreWeighed z.model.bodies c.self.inside.weights.items) c.self.view_is c.self.invariant) c.bodies-bodies.result.now c.bodies-bodies.ensures.now c.deref.result.now c.deref.ensures.value c.of_formula-weight.result (claim_of c.args.formula.now) scope c.args.names c.in-Some.rounds c.period.ensures.loops c.of_formula-weight.ensures (omega arith) few again
