use Rattle.core_tree.specs.Trees.{claim_of}
use Rattle.eval_steps.specs.Judged.{scope_names, HoldsIn}
use Rattle.eval_tree.proofs.FoundLemmas.{if_ok_to, said_true, said_false}
use Rattle.eval_tree.proofs.Cases.{or_first, or_second, implies_first, implies_second, iff_says}
use Rattle.std.proofs.Common.{◌↔◌, IsTrue}
use Rattle.core_meaning.specs.Operators.{Connects}
use Rattle.core_tree.specs.declared.operators.Connective.TheVariants.{Or, Implies}
use Rattle.eval_tree.proofs.walk.Walk.connect.Goals as goal

pub returns-then-first : goal.returns-then-first
returns-then-first g c =
    rw c.in-Or.is (or_first (HoldsIn c.args.self.now.judge.now (claim_of c.args.f.now) (scope_names c.args.self.now.judge.now c.args.scope.now) c.args.position) (HoldsIn c.args.self.now.judge.now (claim_of c.args.g.now) (scope_names c.args.self.now.judge.now c.args.scope.now) c.args.position) (said_true c.in_ok-first.first c.in_ok-first.ensures c.if-first.true))

pub returns-else-first : goal.returns-else-first
returns-else-first g c =
    rw c.in-Or.is (if_ok_to _ (λ b. IsTrue b ↔ Connects Or (HoldsIn c.args.self.now.judge.now (claim_of c.args.f.now) (scope_names c.args.self.now.judge.now c.args.scope.now) c.args.position) (HoldsIn c.args.self.now.judge.now (claim_of c.args.g.now) (scope_names c.args.self.now.judge.now c.args.scope.now) c.args.position)) (λ b k. or_second (HoldsIn c.args.self.now.judge.now (claim_of c.args.f.now) (scope_names c.args.self.now.judge.now c.args.scope.now) c.args.position) (HoldsIn c.args.self.now.judge.now (claim_of c.args.g.now) (scope_names c.args.self.now.judge.now c.args.scope.now) c.args.position) b (said_false c.in_ok-first.first c.in_ok-first.ensures c.if-first.false) k) c.holds-in-Or.result c.holds-in-Or.ensures)

pub returns-then-not-first : goal.returns-then-not-first
returns-then-not-first g c =
    rw c.in-Implies.is (implies_first (HoldsIn c.args.self.now.judge.now (claim_of c.args.f.now) (scope_names c.args.self.now.judge.now c.args.scope.now) c.args.position) (HoldsIn c.args.self.now.judge.now (claim_of c.args.g.now) (scope_names c.args.self.now.judge.now c.args.scope.now) c.args.position) (said_false c.in_ok-first.first c.in_ok-first.ensures c.if-not-first.true))

pub returns-else-not-first : goal.returns-else-not-first
returns-else-not-first g c =
    rw c.in-Implies.is (if_ok_to _ (λ b. IsTrue b ↔ Connects Implies (HoldsIn c.args.self.now.judge.now (claim_of c.args.f.now) (scope_names c.args.self.now.judge.now c.args.scope.now) c.args.position) (HoldsIn c.args.self.now.judge.now (claim_of c.args.g.now) (scope_names c.args.self.now.judge.now c.args.scope.now) c.args.position)) (λ b k. implies_second (HoldsIn c.args.self.now.judge.now (claim_of c.args.f.now) (scope_names c.args.self.now.judge.now c.args.scope.now) c.args.position) (HoldsIn c.args.self.now.judge.now (claim_of c.args.g.now) (scope_names c.args.self.now.judge.now c.args.scope.now) c.args.position) b (said_true c.in_ok-first.first c.in_ok-first.ensures c.if-not-first.false) k) c.holds-in-Implies.result c.holds-in-Implies.ensures)

pub returns-in_ok-second-in-Iff : goal.returns-in_ok-second-in-Iff
returns-in_ok-second-in-Iff g c =
    rw c.in-Iff.is (iff_says (HoldsIn c.args.self.now.judge.now (claim_of c.args.f.now) (scope_names c.args.self.now.judge.now c.args.scope.now) c.args.position) (HoldsIn c.args.self.now.judge.now (claim_of c.args.g.now) (scope_names c.args.self.now.judge.now c.args.scope.now) c.args.position) c.in_ok-first.first c.in_ok-second-in-Iff.second c.says.result c.in_ok-first.ensures c.in_ok-second-in-Iff.ensures c.says.ensures)
