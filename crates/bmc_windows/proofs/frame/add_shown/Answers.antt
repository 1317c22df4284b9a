use Rattle.std.proofs.Common.{◌+◌}
use Rattle.bmc_windows.specs.Frames.{state_shown}
use Rattle.bmc_windows.proofs.Adding.{adds_one}
use Rattle.bmc_windows.proofs.frame.add_shown.Goals as goal

pub loop-place-preserved : goal.loop-place-preserved
loop-place-preserved c =
    adds_one c.args.shown.now.items c.loop-place.shown.items c.push.new.self.items c.loop-place.place c.state_at.result
    (λ k. state_shown c.args.states c.args.loop_start k) c.loop-place.invariant c.state_at.ensures c.in_ok-push.ensures.items
