use Rattle.std.proofs.Common.{◌≡◌, take}
use Rattle.std.specs.Prelude.{filter}
use Rattle.resolve_read.specs.At.{at_of}
use Rattle.resolve_read.specs.Candidates.{passes}
use Rattle.resolve_read.proofs.ground.kept.Given as goal

abbrev pub invariant-loop-decl : goal.invariant-loop-decl
invariant-loop-decl l = l.all.items ≡ filter (passes (at_of l.spot) l.test) (take l.decl-index l.decls)
