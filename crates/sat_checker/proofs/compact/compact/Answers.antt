use Rattle.std.proofs.Common.{arith}
use Rattle.sat_checker.proofs.Compacting.{fits_after, same_after, within_after}
use Rattle.sat_checker.proofs.compact.compact.Goals as goal

pub lay_out-requires : goal.lay_out-requires
lay_out-requires c =
    fits_after c.as_slice.result.now c.in-Ok.all.items c.args.spans.now.entries c.in-Ok.ensures.within c.in-Ok.ensures.all
    (omega (arith, c.in-Ok.all.ok.0, c.len.ensures, c.if-len-gt-PLACES.false))

pub returns-clause-same : goal.returns-clause-same
returns-clause-same c =
    same_after c.as_slice.result.now c.in-Ok.all.items c.args.spans.now.entries c.in-Ok.ensures.within c.in-Ok.ensures.all
    c.args.literals.now.items c.lay_out.new.spans.entries c.as_slice.ensures.value c.lay_out.ensures

pub returns-clause-within : goal.returns-clause-within
returns-clause-within c =
    within_after c.as_slice.result.now c.in-Ok.all.items c.args.spans.now.entries c.in-Ok.ensures.within c.in-Ok.ensures.all
    c.lay_out.new.spans.entries c.lay_out.ensures
