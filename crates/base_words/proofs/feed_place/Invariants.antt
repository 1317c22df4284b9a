use Rattle.std.proofs.Common.{◌≡◌, ℕ, ◌<◌, false, slice_index}
use Rattle.base_words.specs.Words.{is_feed}
use Rattle.base_words.proofs.feed_place.Given as goal

abbrev pub invariant-loop-place : goal.invariant-loop-place
invariant-loop-place l = (k : ℕ) → k < l.place → is_feed (slice_index l.text k) ≡ false
