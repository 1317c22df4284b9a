use Rattle.std.proofs.Common.{◌≡◌}
use Rattle.view_quotes.specs.Quoting.{marks}
use Rattle.view_quotes.proofs.push_entities.Given as goal

abbrev pub invariant-loop-byte : goal.invariant-loop-byte
invariant-loop-byte l = marks l.out.items ≡ marks l.initial.out.items
