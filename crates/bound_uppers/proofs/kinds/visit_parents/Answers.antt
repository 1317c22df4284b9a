use Rattle.std.proofs.Common.{◌<◌, ◌≤◌, length, arith}
use Rattle.bound_uppers.proofs.Rising.{none_more, parents_more, parents_all}
use Rattle.bound_uppers.proofs.kinds.visit_parents.Goals as goal

pub loop-place-init : goal.loop-place-init
loop-place-init c = λ sigs ups. none_more sigs ups c.args.parents.now c.args.rows.now.items c.args.waiting.now.items

pub loop-place-preserved : goal.loop-place-preserved
loop-place-preserved c = λ sigs ups.
    let lt : c.loop-place.place < length c.args.parents.now = omega arith in
    parents_more sigs ups c.args.parents.now c.loop-place.place c.column_at-parent.result c.args.rows.now.items c.loop-place.rows.items c.visit_parent.new.rows.items c.args.waiting.now.items c.loop-place.waiting.items c.visit_parent.new.waiting.items lt c.column_at-parent.ensures (c.loop-place.invariant sigs ups) (c.in_ok-visit_parent.ensures sigs ups)

pub returns : goal.returns
returns c = λ sigs ups.
    let over : length c.args.parents.now ≤ c.loop-place.place = omega arith in
    parents_all sigs ups c.args.parents.now c.loop-place.place c.args.rows.now.items c.loop-place.rows.items c.args.waiting.now.items c.loop-place.waiting.items over (c.loop-place.invariant sigs ups)
