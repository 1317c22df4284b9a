use Rattle.std.proofs.Common.{sym, arith}
use Rattle.std.proofs.lemmas.Option.{get_or_from_slice_get, slice_get_within}
use Rattle.core_tree.specs.Models.{IsParent}
use Rattle.resolve_check.proofs.Owners.{all_more, all_whole}
use Rattle.resolve_check.proofs.sigs.are_parents.Goals as goal

pub loop-place-preserved : goal.loop-place-preserved
loop-place-preserved c = all_more (IsParent c.args.sigs) c.args.columns.now c.loop-place.place c.get-column.result.now (slice_get_within c.args.columns.now c.loop-place.place c.get-column.result.now c.get-column.ensures) (sym (get_or_from_slice_get c.args.columns.now c.loop-place.place c.get-column.result.now c.get-column.result.now c.get-column.ensures)) c.loop-place.invariant (c.is_parent.ensures c.if-not-is_parent.false)

pub returns : goal.returns
returns c = λ t. all_whole (IsParent c.args.sigs) c.args.columns.now c.loop-place.place (omega arith) c.loop-place.invariant
