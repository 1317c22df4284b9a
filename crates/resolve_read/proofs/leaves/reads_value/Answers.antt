use Rattle.resolve_read.specs.At.{at_of, scope_of}
use Rattle.resolve_read.proofs.Forms.{number_case, negative_case, literal_case}
use Rattle.resolve_read.proofs.leaves.reads_value.Goals as goal

pub returns-in_ok-column_of-in-Number : goal.returns-in_ok-column_of-in-Number
returns-in_ok-column_of-in-Number c =
    number_case (at_of c.args.spot.now) (scope_of c.args.locals.now) c.args.tree.now _ _ _ _ _ c.in-Number.is c.in_ok-column_of-in-Number.ensures c.known_draft-draft.ensures.tree c.known_draft-draft.ensures.choice

pub returns-in_ok-column_of-in-Negative : goal.returns-in_ok-column_of-in-Negative
returns-in_ok-column_of-in-Negative c =
    negative_case (at_of c.args.spot.now) (scope_of c.args.locals.now) c.args.tree.now _ _ _ _ _ c.in-Negative.is c.in_ok-column_of-in-Negative.ensures c.known_draft-draft-in-Negative.ensures.tree c.known_draft-draft-in-Negative.ensures.choice

pub returns-in-Some : goal.returns-in-Some
returns-in-Some c =
    let p = rw c.in-Some.is at c.in_ok-found-in-Literal.ensures in
    literal_case (at_of c.args.spot.now) (scope_of c.args.locals.now) c.args.tree.now _ _ _ _ _ c.in-Literal.is p c.known_draft.ensures.tree c.known_draft.ensures.choice
