use Rattle.std.proofs.Common.{arith}
use Rattle.bound_naming.proofs.IndexLaws.{index_none, index_more, index_all}
use Rattle.bound_naming.proofs.spots.index_of.Goals as goal

pub loop-place-init : goal.loop-place-init
loop-place-init c = index_none c.args.bounds.now c.as_slice-relations.result.now c.args.atoms c.in_ok-lists.lists.items c.in_ok-lists.ensures.count c.in_ok-lists.ensures.none

pub loop-place-preserved : goal.loop-place-preserved
loop-place-preserved c = index_more c.args.bounds.now c.as_slice-relations.result.now c.args.atoms c.loop-place.place c.index.result.now c.loop-place.lists.items c.add_relation.new.lists.items c.as_slice-relations.ensures c.in_ok-add_relation.ensures c.loop-place.invariant

pub returns : goal.returns
returns c = index_all c.args.bounds.now c.as_slice-relations.result.now c.args.atoms c.loop-place.place c.loop-place.lists.items c.as_slice-relations.ensures (omega arith) (omega arith) c.loop-place.invariant
