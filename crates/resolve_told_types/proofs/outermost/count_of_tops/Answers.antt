use Rattle.std.proofs.Common.{get_or, refl, take}
use Rattle.std.proofs.lemmas.Option.{slice_get-get_or}
use Rattle.resolve_told_types.proofs.OuterLaws.{tops_all, tops_more, tops_none}
use Rattle.resolve_told_types.proofs.outermost.count_of_tops.Goals as goal

pub loop-place-init : goal.loop-place-init
loop-place-init c = tops_none c.args.sigs.now (take 0 c.args.rows.now) refl

pub loop-place-preserved : goal.loop-place-preserved
loop-place-preserved c =
    let sigs = c.args.sigs.now in
    let place = c.loop-place.place in
    let sig = c.index-sigs-place.result in
    tops_more sigs c.args.rows.now place c.loop-place.count c.in-Some.next (get_or sigs place sig) (slice_get-get_or sigs place sig c.loop-place-test.true) c.in-Some.ensures c.loop-place.invariant

pub returns : goal.returns
returns c = tops_all c.args.sigs.now c.loop-place.place (take c.loop-place.count c.args.rows.now) c.loop-place-test.false c.loop-place.invariant
