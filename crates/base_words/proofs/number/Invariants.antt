use Rattle.std.proofs.Common.{◌≡◌, drop}
use Rattle.base_words.specs.Words.{number_after}
use Rattle.base_words.proofs.number.Given as goal

abbrev pub invariant-loop-digit : goal.invariant-loop-digit
invariant-loop-digit l = number_after l.value (drop l.digit-index l.digits) ≡ number_after 0 l.digits
