use Rattle.std.proofs.Common.{List, subst, sym}
use Rattle.form_skolem.specs.declared.bounds.BoundType.{BoundType}
use Rattle.form_skolem.specs.Opened.{typed_parameters, with_fields}
use Rattle.form_skolem.specs.Steps.{AreTypes}
use Rattle.form_skolem.proofs.open.open_params.Goals as goal

pub returns-then-is_kept-clause-opened : goal.returns-then-is_kept-clause-opened
returns-then-is_kept-clause-opened c =
    let some = c.in-Some.ensures.some in
    with_fields c.in-Some.body some
    (c.in_ok-changed.ensures some (subst (λ (bs : List BoundType). AreTypes bs (typed_parameters c.args.model some.body)) (sym c.as_slice.ensures.value) (c.in_ok-types.ensures some.body some.runs.body_is)))
