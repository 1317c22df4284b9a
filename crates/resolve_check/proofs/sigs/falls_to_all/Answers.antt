use Rattle.std.proofs.Common.{sym, arith}
use Rattle.std.proofs.lemmas.Option.{get_or_from_slice_get, slice_get_within}
use Rattle.resolve_check.specs.Kept.{FallsTo}
use Rattle.resolve_check.proofs.Owners.{all_more, all_whole}
use Rattle.resolve_check.proofs.sigs.falls_to_all.Goals as goal

pub loop-place-preserved : goal.loop-place-preserved
loop-place-preserved c = all_more (FallsTo c.args.numbers.now c.args.sig) c.args.parents.now c.loop-place.place c.get-parent.result.now (slice_get_within c.args.parents.now c.loop-place.place c.get-parent.result.now c.get-parent.ensures) (sym (get_or_from_slice_get c.args.parents.now c.loop-place.place c.get-parent.result.now c.get-parent.result.now c.get-parent.ensures)) c.loop-place.invariant (c.falls_to.ensures c.if-not-falls_to.false)

pub returns : goal.returns
returns c = λ t. all_whole (FallsTo c.args.numbers.now c.args.sig) c.args.parents.now c.loop-place.place (omega arith) c.loop-place.invariant
