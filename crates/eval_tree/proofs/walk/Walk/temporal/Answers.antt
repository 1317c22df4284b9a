use Rattle.std.proofs.Common.{◌↔◌, IsTrue, arith, subst, IfOk}
use Rattle.core_meaning.specs.Operators.{Happens}
use Rattle.core_tree.specs.Trees.{claim_of}
use Rattle.eval_steps.specs.Judged.{scope_names, HoldsIn}
use Rattle.eval_tree.proofs.FoundLemmas.{if_ok_to}
use Rattle.eval_tree.proofs.Cases.{always_true, eventually_true, historically_true, once_true, before_start, before_there}
use Rattle.core_tree.specs.declared.operators.TemporalUnary.TheVariants.{Eventually, Before, Once}
use Rattle.eval_tree.proofs.walk.Walk.temporal.Goals as goal

pub returns-in_ok-after-in-After : goal.returns-in_ok-after-in-After
returns-in_ok-after-in-After g c =
    rw c.in-After.is (subst (λ m. IfOk c.holds.result (λ b. IsTrue b ↔ HoldsIn c.args.self.now.judge.now (claim_of c.args.f.now) (scope_names c.args.self.now.judge.now c.args.scope.now) m)) c.in_ok-after-in-After.ensures c.holds.ensures)

pub returns-in_ok-forward-in-Always : goal.returns-in_ok-forward-in-Always
returns-in_ok-forward-in-Always g c =
    rw c.in-Always.is (always_true (λ j. HoldsIn c.args.self.now.judge.now (claim_of c.args.f.now) (scope_names c.args.self.now.judge.now c.args.scope.now) j) c.args.position c.in_ok-forward-in-Always.field-0 c.in_ok-forward-in-Always.ensures)

pub returns-in-Eventually : goal.returns-in-Eventually
returns-in-Eventually g c =
    rw c.in-Eventually.is (if_ok_to _ (λ b. IsTrue b ↔ Happens Eventually (λ j. HoldsIn c.args.self.now.judge.now (claim_of c.args.f.now) (scope_names c.args.self.now.judge.now c.args.scope.now) j) c.args.position) (λ b k. eventually_true (λ j. HoldsIn c.args.self.now.judge.now (claim_of c.args.f.now) (scope_names c.args.self.now.judge.now c.args.scope.now) j) c.args.position b k) c.forward-in-Eventually.result c.forward-in-Eventually.ensures)

pub returns-then-position-eq0 : goal.returns-then-position-eq0
returns-then-position-eq0 g c =
    rw c.in-Before.is (before_start (λ j. HoldsIn c.args.self.now.judge.now (claim_of c.args.f.now) (scope_names c.args.self.now.judge.now c.args.scope.now) j) c.args.position c.if-position-eq0.true)

pub returns-else-position-eq0 : goal.returns-else-position-eq0
returns-else-position-eq0 g c =
    rw c.in-Before.is (if_ok_to _ (λ b. IsTrue b ↔ Happens Before (λ j. HoldsIn c.args.self.now.judge.now (claim_of c.args.f.now) (scope_names c.args.self.now.judge.now c.args.scope.now) j) c.args.position) (λ b k. before_there (λ j. HoldsIn c.args.self.now.judge.now (claim_of c.args.f.now) (scope_names c.args.self.now.judge.now c.args.scope.now) j) c.args.position b (omega arith) k) c.holds-in-Before.result c.holds-in-Before.ensures)

pub returns-in_ok-backward-in-Historically : goal.returns-in_ok-backward-in-Historically
returns-in_ok-backward-in-Historically g c =
    rw c.in-Historically.is (historically_true (λ j. HoldsIn c.args.self.now.judge.now (claim_of c.args.f.now) (scope_names c.args.self.now.judge.now c.args.scope.now) j) c.args.position c.in_ok-backward-in-Historically.field-0 c.in_ok-backward-in-Historically.ensures)

pub returns-in-Once : goal.returns-in-Once
returns-in-Once g c =
    rw c.in-Once.is (if_ok_to _ (λ b. IsTrue b ↔ Happens Once (λ j. HoldsIn c.args.self.now.judge.now (claim_of c.args.f.now) (scope_names c.args.self.now.judge.now c.args.scope.now) j) c.args.position) (λ b k. once_true (λ j. HoldsIn c.args.self.now.judge.now (claim_of c.args.f.now) (scope_names c.args.self.now.judge.now c.args.scope.now) j) c.args.position b k) c.backward-in-Once.result c.backward-in-Once.ensures)
