use Rattle.std.proofs.Common.{◌≡◌, take}
use Rattle.resolve_read.specs.Candidates.{own_named}
use Rattle.resolve_read.proofs.own.own_named.Given as goal

abbrev pub invariant-loop-one : goal.invariant-loop-one
invariant-loop-one l = l.all ≡ own_named (take l.one-index l.own) l.text
