use Rattle.resolve_type_check.proofs.FormEnds.{multiplies_end}
use Rattle.resolve_type_check.proofs.forms.product_types.Goals as goal

pub returns : goal.returns
returns c =
    let a = c.as_slice.result.now in
    let b = c.as_slice-in-Some-second.result.now in
    let all = c.in_ok-product_type-in-Some-second.field-0 in
    multiplies_end c.args.model.now c.args.first c.args.second c.in-Some.a c.in-Some-second.b a b all c.in-Some.is c.in-Some-second.is c.as_slice.ensures c.as_slice-in-Some-second.ensures c.in_ok-product_type-in-Some-second.ensures
