use Rattle.std.proofs.lemmas.Result.{IfOk-weaker}
use Rattle.core_tree.specs.declared.operators.RelationOp.TheVariants.{Union, Override}
use Rattle.core_meaning.specs.Operators.{combined_tuples}
use Rattle.core_tuples.specs.Sets.{In}
use Rattle.eval_sets.specs.SetOf.{IsSetOf}
use Rattle.eval_sets.proofs.OperatorLaw.{overridden_law}
use Rattle.eval_sets.proofs.operators.overridden.Goals as goal

pub returns : goal.returns
returns c =
    let a = c.args.a.now in
    let b = c.args.b.now in
    let kept = c.in_ok-kept.kept in
    IfOk-weaker c.united.result (λ s. IsSetOf s (combined_tuples Union (λ t. In t b) (λ t. In t kept))) (λ s. IsSetOf s (combined_tuples Override (λ t. In t a) (λ t. In t b)))
    (λ s h. overridden_law s a b c.in_ok-begins.begins kept c.in_ok-begins.ensures c.in_ok-kept.ensures h) c.united.ensures
