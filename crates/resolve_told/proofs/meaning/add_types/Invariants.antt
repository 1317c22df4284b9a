use Rattle.std.proofs.Common.{◌≡◌, ◌++◌, drop}
use Rattle.resolve_told.specs.Reads.{spread}
use Rattle.resolve_told.proofs.meaning.add_types.Given as goal

abbrev pub invariant-loop-place : goal.invariant-loop-place
invariant-loop-place l = l.all ++ spread (drop l.place l.decls) (drop l.place l.types) ≡ l.initial.all ++ spread l.decls l.types
