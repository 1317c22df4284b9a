use Rattle.std.proofs.Common.{◌≡◌, ℕ, ◌<◌, false, slice_index}
use Rattle.answer_trace.specs.Reading.{is_stop}
use Rattle.answer_trace.proofs.words.stop_place.Given as goal

abbrev pub invariant-loop-place : goal.invariant-loop-place
invariant-loop-place l = (k : ℕ) → k < l.place → is_stop (slice_index l.text k) ≡ false
