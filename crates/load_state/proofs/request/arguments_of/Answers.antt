use Rattle.std.proofs.Common.{arith}
use Rattle.load_state.proofs.Opens.{fits_step}
use Rattle.load_state.proofs.request.arguments_of.Goals as goal

pub loop-place-preserved : goal.loop-place-preserved
loop-place-preserved c =
    fits_step c.args.names.now c.loop-place.place _ c.loop-place.arguments c.push.new.self c.in_ok-argument_at.field-0 (omega arith) (omega arith) c.loop-place.invariant c.in_ok-argument_at.ensures.fits
    c.in_ok-push.ensures.ok
