use Rattle.std.proofs.Common.{◌≡◌, arith, map}
use Rattle.core_tree.specs.Trees.{term_of, name}
use Rattle.resolve_told.specs.Views.{declared}
use Rattle.resolve_told.proofs.Walk.{right_more}
use Rattle.resolve_told.proofs.asked.are_arguments.Goals as goal

pub loop-place-preserved : goal.loop-place-preserved
loop-place-preserved c =
    right_more (λ n t. t ≡ name n) term_of (map declared c.args.all.now) c.args.given.now c.loop-place.place c.index-given-place.result
    (omega arith) c.index-given-place.is c.loop-place.invariant (c.is_name.ensures c.if-not-is_name.false)
