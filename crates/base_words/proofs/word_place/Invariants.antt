use Rattle.std.proofs.Common.{◌≡◌, ℕ, ◌<◌, true, slice_index}
use Rattle.base_words.specs.Words.{is_blank}
use Rattle.base_words.proofs.word_place.Given as goal

abbrev pub invariant-loop-place : goal.invariant-loop-place
invariant-loop-place l = (k : ℕ) → k < l.place → is_blank (slice_index l.line k) ≡ true
