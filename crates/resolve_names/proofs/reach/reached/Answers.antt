use Rattle.resolve_names.proofs.Walk.{closed_reached}
use Rattle.resolve_names.proofs.reach.reached.Goals as goal

pub returns : goal.returns
returns c =
    closed_reached c.args.scopes.now c.args.from c.opens_of-opens.result.now c.spread.new.marks.items c.opens_of-opens.ensures.all c.requires.linked c.spread.ensures.begun c.spread.ensures.closed
