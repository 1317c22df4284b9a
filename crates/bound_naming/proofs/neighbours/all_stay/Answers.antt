use Rattle.std.proofs.Common.{arith, refl}
use Rattle.std.proofs.lemmas.List.Elements.{All-more}
use Rattle.bound_naming.specs.Reckoned.{Stays}
use Rattle.bound_naming.proofs.NeighbourLaws.{taken_all}
use Rattle.bound_naming.proofs.neighbours.all_stay.Goals as goal

pub loop-place-preserved : goal.loop-place-preserved
loop-place-preserved c = All-more (Stays c.args.relations.now c.args.a c.args.b) c.args.spots.now c.loop-place.place _ (omega arith) c.loop-place.invariant (c.in_ok-is_in.ensures.0 c.if-not-is_in.false)

pub returns : goal.returns
returns c = ((λ on. taken_all c.args.relations.now c.args.a c.args.b c.loop-place.place c.args.spots.now (omega arith) c.loop-place.invariant), (λ all. refl))
