use Rattle.resolve_told.proofs.Spread.{spread_end}
use Rattle.resolve_told.proofs.meaning.add_types.Goals as goal

pub returns-then-place-types : goal.returns-then-place-types
returns-then-place-types c = spread_end c.args.decls.now c.args.types.now c.loop-place.all _ c.loop-place.place c.if-place-types.true c.loop-place.invariant
