use Rattle.std.proofs.Common.{subst, ◌∙◌, All}
use Rattle.std.proofs.lemmas.Option.{get_or_from_slice_get}
use Rattle.core_tree.specs.declared.model.Sig.{Sig}
use Rattle.core_tree.specs.Models.{parents_of}
use Rattle.resolve_check.specs.Kept.{FallsTo}
use Rattle.resolve_check.proofs.Falling.{front_more, front_all}
use Rattle.resolve_check.proofs.sigs.are_falling.Goals as goal

pub loop-place-preserved : goal.loop-place-preserved
loop-place-preserved c = front_more (λ k (d : Sig). All (FallsTo c.args.numbers.now k) (parents_of d.kind)) c.args.sigs.now c.loop-place.place c.loop-place.invariant (λ x at. subst (λ (d : Sig). All (FallsTo c.args.numbers.now c.loop-place.place) (parents_of d.kind)) (get_or_from_slice_get c.args.sigs.now c.loop-place.place x c.index-sigs-place.result at) (c.is_falling.ensures c.if-not-is_falling.false))

pub returns : goal.returns
returns c = λ t. front_all (λ k (d : Sig). All (FallsTo c.args.numbers.now k) (parents_of d.kind)) c.args.sigs.now c.loop-place.place c.loop-place-test.false c.loop-place.invariant
