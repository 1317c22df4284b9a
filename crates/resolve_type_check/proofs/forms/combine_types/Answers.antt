use Rattle.std.proofs.Common.{List, subst}
use Rattle.core_tree.specs.declared.model.Sig.{Sig}
use Rattle.core_tree.specs.Types.{combined_rows}
use Rattle.resolve_type_check.specs.Same.{SameRows}
use Rattle.resolve_type_check.proofs.FormEnds.{combines_end}
use Rattle.resolve_type_check.proofs.forms.combine_types.Goals as goal

pub returns : goal.returns
returns c =
    let a = c.as_slice.result.now in
    let b = c.as_slice-in-Some-second.result.now in
    let all = c.in_ok-combined_type-in-Some-second.field-0 in
    combines_end c.args.model.now c.args.first c.args.second c.in-Some.a c.in-Some-second.b a b all c.in-Some.is c.in-Some-second.is c.as_slice.ensures c.as_slice-in-Some-second.ensures c.args.op
    (subst (λ (s : List Sig). SameRows all (combined_rows s c.args.op a b)) c.as_slice-sigs.ensures c.in_ok-combined_type-in-Some-second.ensures)
