use Rattle.bmc_windows.specs.Frames.{AddsPlaces, state_shown}
use Rattle.bmc_windows.proofs.frame.add_shown.Given as goal

abbrev pub invariant-loop-place : goal.invariant-loop-place
invariant-loop-place l = AddsPlaces l.initial.shown.items l.shown.items l.place (λ k. state_shown l.states l.loop_start k)
