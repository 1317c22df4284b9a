use Rattle.std.proofs.Common.{◌<◌, ◌≤◌, length, arith}
use Rattle.bound_uppers.proofs.Rising.{up_more, up_all}
use Rattle.bound_uppers.proofs.kinds.level.Goals as goal

pub loop-place-preserved : goal.loop-place-preserved
loop-place-preserved c =
    let lt : c.loop-place.place < length c.args.waiting.now = omega arith in
    up_more c.args.sigs.now c.args.ups.now c.args.waiting.now c.loop-place.place c.number_at-sig.result c.args.rows.now.items c.loop-place.rows.items c.visit.new.rows.items c.loop-place.next.items c.visit.new.waiting.items lt c.number_at-sig.ensures c.loop-place.invariant c.in_ok-visit.ensures

pub returns : goal.returns
returns c =
    let over : length c.args.waiting.now ≤ c.loop-place.place = omega arith in
    up_all c.args.sigs.now c.args.ups.now c.args.waiting.now c.loop-place.place c.args.rows.now.items c.loop-place.rows.items c.loop-place.next.items over c.loop-place.invariant
