use Rattle.std.proofs.Common.{◌≡◌, drop}
use Rattle.resolve_said.specs.Said.{has_own}
use Rattle.resolve_said.proofs.names.has_own.Given as goal

abbrev pub invariant-loop-one : goal.invariant-loop-one
invariant-loop-one l = has_own (drop l.one-index l.own) l.text ≡ has_own l.own l.text
