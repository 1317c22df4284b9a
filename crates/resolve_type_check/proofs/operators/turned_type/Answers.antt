use Rattle.std.proofs.Common.{◌++◌, Option, IfSome, sym, subst}
use Rattle.core_tree.specs.declared.operators.UnaryRelation.{UnaryRelation}
use Rattle.core_tree.specs.Types.{TypeRows}
use Rattle.resolve_type_check.specs.Same.{SameRows}
use Rattle.resolve_type_check.specs.Closed.{IsClosed, Turns}
use Rattle.resolve_type_check.proofs.Results.{if_ok, if_some}
use Rattle.resolve_type_check.proofs.Monotone.{transpose_turns, closure_turns, reflexive_turns}
use Rattle.resolve_type_check.proofs.operators.turned_type.Goals as goal

pub returns-in_ok-turned_rows-in-Transpose : goal.returns-in_ok-turned_rows-in-Transpose
returns-in_ok-turned_rows-in-Transpose c =
    let sigs = c.args.sigs.now in
    subst (λ (op : UnaryRelation). Turns sigs op c.args.rows.now c.in_ok-turned_rows-in-Transpose.field-0) (sym c.in-Transpose.is) (transpose_turns sigs c.args.rows.now c.in_ok-turned_rows-in-Transpose.field-0 c.in_ok-turned_rows-in-Transpose.ensures)

pub returns-in-Closure : goal.returns-in-Closure
returns-in-Closure c =
    let sigs = c.args.sigs.now in
    let rows = c.args.rows.now in
    if_ok c.closed.result (λ o. IfSome o (IsClosed sigs rows)) (λ o. IfSome o (Turns sigs c.args.op rows))
    (λ o h. if_some o (IsClosed sigs rows) (Turns sigs c.args.op rows) (λ w g. subst (λ (op : UnaryRelation). Turns sigs op rows w) (sym c.in-Closure.is) (closure_turns sigs rows w g)) h) c.closed.ensures

pub returns-in_ok-either_type-in-Some : goal.returns-in_ok-either_type-in-Some
returns-in_ok-either_type-in-Some c =
    let sigs = c.args.sigs.now in
    let rows = c.args.rows.now in
    let closed = subst (λ (o : Option TypeRows). IfSome o (IsClosed sigs rows)) c.in-Some.is c.in_ok-closed-in-ReflexiveClosure.ensures in
    let made = subst (λ (r : TypeRows). SameRows c.in_ok-either_type-in-Some.field-0 (r ++ c.in_ok-tops-in-Some.tops)) c.as_slice.ensures (subst (λ (r : TypeRows). SameRows c.in_ok-either_type-in-Some.field-0 (c.as_slice.result.now ++ r)) c.as_slice-in-Some.ensures c.in_ok-either_type-in-Some.ensures) in
    subst (λ (op : UnaryRelation). Turns sigs op rows c.in_ok-either_type-in-Some.field-0) (sym c.in-ReflexiveClosure.is) (reflexive_turns sigs rows c.in-Some.walks c.in_ok-tops-in-Some.tops c.in_ok-either_type-in-Some.field-0 closed c.in_ok-tops-in-Some.ensures made)
