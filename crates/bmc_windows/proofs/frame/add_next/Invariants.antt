use Rattle.std.proofs.Common.{◌+◌, length}
use Rattle.bmc_windows.specs.Frames.{AddsPlaces, place_next}
use Rattle.bmc_windows.proofs.frame.add_next.Given as goal

abbrev pub invariant-loop-place : goal.invariant-loop-place
invariant-loop-place l = AddsPlaces l.initial.next.items l.next.items l.place (λ k. length l.initial.next.items + place_next l.states l.rounds l.loop_start k)
