use Rattle.std.proofs.Common.{◌≡◌, ℕ, length, slice_get, Some}
use Rattle.bmc_windows.specs.declared.frame.Stretch.{Stretch}
use Rattle.bmc_windows.specs.Frames.{IsStretch, start_of}
use Rattle.bmc_windows.proofs.frame.frame_of.Given as goal

abbrev pub invariant-loop-loop_start : goal.invariant-loop-loop_start
invariant-loop-loop_start l = record {
  states_are : l.frame.states ≡ l.states;
  count : length l.frame.windows.items ≡ l.loop_start;
  each : (loop : ℕ) (s : Stretch) → slice_get l.frame.windows.items loop ≡ Some s → IsStretch l.states l.rounds loop l.frame.shown.items l.frame.next.items s;
  long : length l.frame.shown.items ≡ start_of l.states l.rounds l.loop_start;
  together : length l.frame.next.items ≡ length l.frame.shown.items;
}
