use Rattle.std.proofs.Common.{List, ap, sym, ◌∙◌}
use Rattle.core_tree.specs.Trees.{term_of, claim_of}
use Rattle.form_measures.specs.declared.scope.Named.{Named}
use Rattle.form_measures.specs.Measured.{up_to, measured_of, measured_in}
use Rattle.form_measures.specs.Weights.{named}
use Rattle.form_measures.proofs.Lists.{known_body, form_test, form_value}
use Rattle.form_measures.proofs.measure.summary_of.Goals as goal

pub returns-in-Test : goal.returns-in-Test
returns-in-Test c = λ all agrees d e counts none.
    rw c.in-Test.is
    (known_body c.args.bodies.now c.as_slice-names.result.now c.args.count c.in_ok-weight-in-Test.weight (λ every x. measured_of c.args.measure every (claim_of c.in-Test.formula) x)
    (λ k x. ap (λ (l : List Named). named k l x) c.as_slice-names.ensures.value ∙ c.in_ok-names.ensures k x) c.in_ok-weight-in-Test.ensures all agrees d e counts none
    ∙ ap up_to (sym (form_test c.args.measure all c.in-Test.formula e)))

pub returns : goal.returns
returns c = λ all agrees d e counts none.
    rw c.in-Term.is
    (known_body c.args.bodies.now c.as_slice-names.result.now c.args.count c.in_ok-weight-in-Term.weight (λ every x. measured_in c.args.measure every (term_of c.in-Term.expr) x)
    (λ k x. ap (λ (l : List Named). named k l x) c.as_slice-names.ensures.value ∙ c.in_ok-names.ensures k x) c.in_ok-weight-in-Term.ensures all agrees d e counts none
    ∙ ap up_to (sym (form_value c.args.measure all c.in-Term.expr c.in-Term.field-1 e)))
