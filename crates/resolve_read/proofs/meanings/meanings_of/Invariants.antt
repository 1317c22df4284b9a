use Rattle.std.proofs.Common.{◌≡◌, map, take, Some}
use Rattle.resolve_read.specs.At.{at_of}
use Rattle.resolve_read.specs.Candidates.{meaning_of}
use Rattle.resolve_read.proofs.meanings.meanings_of.Given as goal

abbrev pub invariant-loop-decl : goal.invariant-loop-decl
invariant-loop-decl l = map (meaning_of (at_of l.spot)) (take l.decl-index l.decls) ≡ map Some l.all
