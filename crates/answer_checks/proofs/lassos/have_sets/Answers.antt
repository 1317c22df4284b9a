use Rattle.std.proofs.Common.{◌∙◌, sym, subst, arith}
use Rattle.std.proofs.lemmas.Option.{same_Some}
use Rattle.core_tuples.specs.Sets.{TupleList, IsTupleSet}
use Rattle.answer_checks.proofs.Lists.{front_more, front_all, all_from_places}
use Rattle.answer_checks.proofs.lassos.have_sets.Goals as goal

pub loop-place-preserved : goal.loop-place-preserved
loop-place-preserved c =
    front_more (λ k (set : TupleList). IsTupleSet set) c.args.state.now c.loop-place.place c.loop-place.invariant
    (λ x at. subst IsTupleSet (same_Some c.get.result.now x (sym c.get.ensures ∙ at)) c.arity.ensures.set)

pub returns : goal.returns
returns c = all_from_places IsTupleSet c.args.state.now (front_all (λ k (set : TupleList). IsTupleSet set) c.args.state.now c.loop-place.place (omega arith) c.loop-place.invariant)
