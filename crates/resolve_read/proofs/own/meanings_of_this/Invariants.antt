use Rattle.std.proofs.Common.{◌≡◌, map, take, Some}
use Rattle.resolve_read.specs.At.{at_of}
use Rattle.resolve_read.specs.Candidates.{meaning_of_this}
use Rattle.resolve_read.proofs.own.meanings_of_this.Given as goal

abbrev pub invariant-loop-field : goal.invariant-loop-field
invariant-loop-field l = map (meaning_of_this (at_of l.spot)) (take l.field-index l.fields) ≡ map Some l.all
