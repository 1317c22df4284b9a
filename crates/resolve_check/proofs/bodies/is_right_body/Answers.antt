use Rattle.std.proofs.Common.{◌≡◌, sym, subst, ◌∙◌}
use Rattle.core_tree.specs.declared.model.Parameter.{Parameter}
use Rattle.core_tree.specs.Columns.{no_columns}
use Rattle.core_tree.specs.Models.{AreRightParameters, IsRightForm, named_columns, parameters_of}
use Rattle.resolve_check.specs.Names.{names_of}
use Rattle.resolve_check.proofs.Parts.{both_from}
use Rattle.resolve_check.proofs.ParameterSteps.{some_of}
use Rattle.resolve_check.proofs.bodies.is_right_body.Goals as goal

pub returns-in_ok-is_right_form-in-Some : goal.returns-in_ok-is_right_form-in-Some
returns-in_ok-is_right_form-in-Some c = λ t.
    let b = both_from c.in_ok-are_right_parameters-in-Some.field-0 c.in_ok-is_right_form-in-Some.field-0 (sym c.both.ensures ∙ t) in
    let same = some_of (λ ns. names_of ns ≡ named_columns (parameters_of c.args.model.now c.args.body.now) 0) c.in_ok-names_of_body.field-0 c.in-Some.names c.in-Some.is c.in_ok-names_of_body.ensures in (
      subst (λ ps. AreRightParameters c.args.model.now ps 0 no_columns) c.as_slice-parameters.ensures (c.in_ok-are_right_parameters-in-Some.ensures b.first),
      subst (λ k. IsRightForm c.args.model.now c.args.body.now.rank c.args.body.now.form k) same (c.in_ok-is_right_form-in-Some.ensures b.second),
    )
