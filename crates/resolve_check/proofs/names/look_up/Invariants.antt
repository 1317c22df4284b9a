use Rattle.std.proofs.Common.{◌≡◌, take}
use Rattle.resolve_check.specs.Names.{names_of}
use Rattle.resolve_check.proofs.names.look_up.Given as goal

abbrev pub invariant-loop-named : goal.invariant-loop-named
invariant-loop-named l = l.found ≡ names_of (take l.named-index l.list) l.name
