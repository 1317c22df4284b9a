use Rattle.resolve_read.specs.At.{at_of, scope_of}
use Rattle.resolve_read.proofs.Picking.{local_case}
use Rattle.resolve_read.proofs.candidates.picked_alone.Goals as goal

pub returns-in_ok-chosen-in-Some : goal.returns-in_ok-chosen-in-Some
returns-in_ok-chosen-in-Some c = λ alone.
    let one = c.in_ok-chosen-in-Some.ensures in
    local_case (at_of c.args.spot.now) (scope_of c.args.locals.now) c.args.name.now c.in_ok-chosen-in-Some.chosen.meanings c.in_ok-chosen-in-Some.chosen.number c.args.text.now c.in-Some.columns.now one.0 one.1 alone c.in-Some.ensures.some
