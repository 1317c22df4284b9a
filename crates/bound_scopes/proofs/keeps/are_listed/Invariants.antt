use Rattle.std.proofs.Common.{All, take}
use Rattle.bound_scopes.specs.Numbers.{IsListed}
use Rattle.bound_scopes.proofs.keeps.are_listed.Given as goal

abbrev pub invariant-loop-place : goal.invariant-loop-place
invariant-loop-place l = All (IsListed l.numbers) (take l.place l.entries)
