use Rattle.std.proofs.Common.{take}
use Rattle.answer_certificates.specs.Named.{AreNamed}
use Rattle.answer_certificates.proofs.kept.kept_names.Given as goal

abbrev pub invariant-loop-number : goal.invariant-loop-number
invariant-loop-number l = AreNamed l.loaded l.facts (take l.number-index l.kept) l.names
