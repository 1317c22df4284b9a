use Rattle.std.proofs.Common.{◌≡◌, take}
use Rattle.resolve_check.proofs.names.copied.Given as goal

abbrev pub invariant-loop-named : goal.invariant-loop-named
invariant-loop-named l = l.all ≡ take l.named-index l.list
