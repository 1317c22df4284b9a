use Rattle.resolve_read.specs.At.{at_of, scope_of}
use Rattle.resolve_read.proofs.Forms.{this_case}
use Rattle.resolve_read.proofs.leaves.reads_this.Goals as goal

pub returns-in_ok-draft-in-Some : goal.returns-in_ok-draft-in-Some
returns-in_ok-draft-in-Some c =
    this_case (at_of c.args.spot.now) (scope_of c.args.locals.now) c.args.tree.now _ _ _ _ _ _ c.in-Constant.is c.in-This.is c.in-Some.ensures.some c.in_ok-columns-in-Some.ensures c.in_ok-draft-in-Some.ensures.tree c.in_ok-draft-in-Some.ensures.choice
