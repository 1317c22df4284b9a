use Rattle.std.proofs.Common.{IfOk, sym, subst}
use Rattle.core_tree.specs.declared.operators.UnaryRelation.{UnaryRelation}
use Rattle.core_meaning.specs.Operators.{unary_tuples, closure_tuples, identity_tuples}
use Rattle.core_tuples.specs.Sets.{In}
use Rattle.eval_sets.specs.SetOf.{IsSetOf}
use Rattle.eval_context.specs.Settings.{world}
use Rattle.eval_context.proofs.SetLaw.{either_is}
use Rattle.eval_context.proofs.setting.Setting.unary.Goals as goal

pub returns-in-Transpose : goal.returns-in-Transpose
returns-in-Transpose c =
    subst (λ (o : UnaryRelation). IfOk c.turned.result (λ s. IsSetOf s (unary_tuples (world c.args.self.now) c.args.position o (λ t. In t c.args.a.now)))) (sym c.in-Transpose.is) (c.turned.ensures)

pub returns-in-Closure : goal.returns-in-Closure
returns-in-Closure c =
    subst (λ (o : UnaryRelation). IfOk c.closure.result (λ s. IsSetOf s (unary_tuples (world c.args.self.now) c.args.position o (λ t. In t c.args.a.now)))) (sym c.in-Closure.is) (c.closure.ensures)

pub returns-in_ok-combine-in-ReflexiveClosure : goal.returns-in_ok-combine-in-ReflexiveClosure
returns-in_ok-combine-in-ReflexiveClosure c =
    subst (λ (o : UnaryRelation). IsSetOf c.in_ok-combine-in-ReflexiveClosure.field-0 (unary_tuples (world c.args.self.now) c.args.position o (λ t. In t c.args.a.now))) (sym c.in-ReflexiveClosure.is) (either_is c.in_ok-combine-in-ReflexiveClosure.field-0 c.in_ok-walks-in-ReflexiveClosure.walks c.in_ok-same-in-ReflexiveClosure.same (closure_tuples (λ t. In t c.args.a.now)) (identity_tuples (world c.args.self.now) c.args.position) c.in_ok-walks-in-ReflexiveClosure.ensures c.in_ok-same-in-ReflexiveClosure.ensures c.in_ok-combine-in-ReflexiveClosure.ensures)
