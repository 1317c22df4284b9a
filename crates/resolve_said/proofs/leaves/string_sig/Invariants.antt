use Rattle.std.proofs.Common.{◌≡◌, ◌+◌, drop}
use Rattle.resolve_said.specs.Said.{string_sig}
use Rattle.resolve_said.proofs.leaves.string_sig.Given as goal

abbrev pub invariant-loop-scope : goal.invariant-loop-scope
invariant-loop-scope l = l.count + string_sig (drop l.scope-index l.scopes) ≡ string_sig l.scopes
