use Rattle.std.proofs.Common.{◌≡◌, false, take}
use Rattle.std.specs.List.{list_any}
use Rattle.resolve_names.specs.Gathered.{is_private_word}
use Rattle.resolve_names.proofs.declared.is_private_field.Given as goal

abbrev pub invariant-loop-word : goal.invariant-loop-word
invariant-loop-word l = list_any is_private_word (take l.word-index l.words) ≡ false
