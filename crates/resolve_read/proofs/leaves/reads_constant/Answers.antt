use Rattle.resolve_read.specs.At.{at_of, scope_of}
use Rattle.resolve_read.proofs.Forms.{constant_case}
use Rattle.resolve_read.proofs.leaves.reads_constant.Goals as goal

pub returns-in-Some : goal.returns-in-Some
returns-in-Some c =
    let p = rw c.in-Some.is at c.in_ok-found-in-Constant.ensures in
    constant_case (at_of c.args.spot.now) (scope_of c.args.locals.now) c.args.tree.now _ _ _ _ _ c.in-Constant.is p c.known_draft.ensures.tree c.known_draft.ensures.choice
