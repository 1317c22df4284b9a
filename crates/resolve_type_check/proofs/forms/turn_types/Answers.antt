use Rattle.std.proofs.Common.{List, IfSome, subst}
use Rattle.core_tree.specs.declared.model.Sig.{Sig}
use Rattle.resolve_type_check.specs.Closed.{Turns}
use Rattle.resolve_type_check.specs.Forms.{Applies}
use Rattle.resolve_type_check.proofs.Results.{if_ok}
use Rattle.resolve_type_check.proofs.FormEnds.{applies_end}
use Rattle.resolve_type_check.proofs.forms.turn_types.Goals as goal

pub returns-in-Some : goal.returns-in-Some
returns-in-Some c =
    let a = c.as_slice.result.now in
    let sigs = c.as_slice-sigs.result.now in
    if_ok c.turned_type.result (λ o. IfSome o (Turns sigs c.args.op a)) (Applies c.args.model.now c.args.op c.args.rows)
    (λ o h. applies_end c.args.model.now c.args.op c.args.rows c.in-Some.a a o c.in-Some.is c.as_slice.ensures (subst (λ (s : List Sig). IfSome o (Turns s c.args.op a)) c.as_slice-sigs.ensures h)) c.turned_type.ensures
