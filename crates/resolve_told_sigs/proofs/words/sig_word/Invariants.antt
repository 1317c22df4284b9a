use Rattle.std.proofs.Common.{◌≡◌, drop}
use Rattle.resolve_told_sigs.specs.Words.{sig_word}
use Rattle.resolve_told_sigs.proofs.words.sig_word.Given as goal

-- the words that are left say it
abbrev pub invariant-loop-qualifier : goal.invariant-loop-qualifier
invariant-loop-qualifier l = sig_word (drop l.qualifier-index l.qualifiers) ≡ sig_word l.qualifiers
