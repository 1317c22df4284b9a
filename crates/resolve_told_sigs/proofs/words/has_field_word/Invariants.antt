use Rattle.std.proofs.Common.{◌≡◌, false, take}
use Rattle.std.specs.List.{list_any}
use Rattle.resolve_told_sigs.specs.Words.{is_field_word}
use Rattle.resolve_told_sigs.proofs.words.has_field_word.Given as goal

abbrev pub invariant-loop-word : goal.invariant-loop-word
invariant-loop-word l = list_any (is_field_word l.wanted) (take l.word-index l.words) ≡ false
