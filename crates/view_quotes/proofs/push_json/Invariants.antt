use Rattle.std.proofs.Common.{◌≡◌}
use Rattle.view_quotes.specs.Quoting.{ends}
use Rattle.view_quotes.proofs.push_json.Given as goal

abbrev pub invariant-loop-byte : goal.invariant-loop-byte
invariant-loop-byte l = ends l.out.items ≡ ends l.initial.out.items
