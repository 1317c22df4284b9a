use Rattle.resolve_read.proofs.Settled.{read_as}
use Rattle.resolve_read.proofs.root.reading.Goals as goal

pub returns-in-Ok-Some : goal.returns-in-Ok-Some
returns-in-Ok-Some c =
    let h = rw c.in-Ok-Some.field-0-is at c.in-Ok-Some.ensures in
    read_as c.args.spot.now.types.now.typing _ c.args.draft.choice c.in-Ok-Some.meaning c.in_ok-whole.whole.part c.as_slice.result.now c.in_ok-whole.whole.choice c.in_ok-whole.ensures.tree c.as_slice.ensures c.in_ok-whole.ensures.choice h.0 h.1
