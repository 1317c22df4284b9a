use Rattle.answer_checks.proofs.Placed.{places_by}
use Rattle.answer_checks.proofs.places.have_places.Goals as goal

pub returns : goal.returns
returns c = λ t. places_by c.args.relations.now c.deref-2.result.now (c.are_held.ensures c.if-not-are_held.false) (c.are_own-own.ensures t)
