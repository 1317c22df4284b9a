use Rattle.resolve_read.specs.At.{at_of, scope_of}
use Rattle.resolve_read.proofs.Forms.{field_case}
use Rattle.resolve_read.proofs.leaves.reads_field.Goals as goal

pub returns-in_ok-draft-in-Some : goal.returns-in_ok-draft-in-Some
returns-in_ok-draft-in-Some c =
    let p = rw c.in-Some.is at c.in_ok-picked-in-At.ensures in
    field_case (at_of c.args.spot.now) (scope_of c.args.locals.now) c.args.tree.now _ _ _ _ _ _ c.in-At.is p c.in_ok-draft-in-Some.ensures.tree c.in_ok-draft-in-Some.ensures.choice
