use Rattle.std.proofs.Common.{ℕ, ◌+◌, ◌↔◌, IsTrue, subst}
use Rattle.core_tree.specs.Trees.{claim_of}
use Rattle.eval_steps.specs.Judged.{scope_names, HoldsIn}
use Rattle.eval_tree.proofs.FoundLemmas.{said_true, said_false}
use Rattle.eval_tree.proofs.Cases.{both_first, both_second}
use Rattle.eval_tree.proofs.walk.Walk.then_next.Goals as goal

pub returns-then-not-first : goal.returns-then-not-first
returns-then-not-first g c =
    both_first (HoldsIn c.args.self.now.judge.now (claim_of c.args.f.now) (scope_names c.args.self.now.judge.now c.args.scope.now) c.args.position) (HoldsIn c.args.self.now.judge.now (claim_of c.args.g.now) (scope_names c.args.self.now.judge.now c.args.scope.now) (c.args.position + 1)) (said_false c.in_ok-first.first c.in_ok-first.ensures c.if-not-first.true)

pub returns : goal.returns
returns g c =
    both_second (HoldsIn c.args.self.now.judge.now (claim_of c.args.f.now) (scope_names c.args.self.now.judge.now c.args.scope.now) c.args.position) (HoldsIn c.args.self.now.judge.now (claim_of c.args.g.now) (scope_names c.args.self.now.judge.now c.args.scope.now) (c.args.position + 1)) (said_true c.in_ok-first.first c.in_ok-first.ensures c.if-not-first.false) c.in_ok-second.second (subst (λ (m : ℕ). IsTrue c.in_ok-second.second ↔ HoldsIn c.args.self.now.judge.now (claim_of c.args.g.now) (scope_names c.args.self.now.judge.now c.args.scope.now) m) c.in_ok-next.ensures c.in_ok-second.ensures)
