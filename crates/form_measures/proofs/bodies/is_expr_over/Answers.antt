use Rattle.std.proofs.Common.{◌∙◌}
use Rattle.core_tree.specs.Trees.{term_of}
use Rattle.form_measures.specs.Measured.{measured_in}
use Rattle.form_measures.proofs.Lists.{over_measured}
use Rattle.form_measures.proofs.bodies.is_expr_over.Goals as goal

pub returns : goal.returns
returns c = λ list are.
    over_measured c.args.measure list c.args.bodies.now c.as_slice.result.now c.as_slice-2.result.now c.in_ok-weight.weight (λ all d. measured_in c.args.measure all (term_of c.args.expr.now) d) c.own_of.result c.args.limit c.as_slice.ensures
    (c.as_slice-2.ensures.value ∙ c.new-names.ensures.items) c.in_ok-weight.ensures are c.own_of.ensures c.requires
