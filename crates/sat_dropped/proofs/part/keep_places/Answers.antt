use Rattle.std.proofs.Common.{arith}
use Rattle.sat_dropped.proofs.Placing.{placed_all}
use Rattle.sat_dropped.proofs.part.keep_places.Goals as goal

pub returns-clause-placed : goal.returns-clause-placed
returns-clause-placed c = placed_all c.loop-place.places.items c.args.literals.now c.loop-place.place (omega (arith, c.loop-place-test.false)) c.loop-place.invariant.placed
