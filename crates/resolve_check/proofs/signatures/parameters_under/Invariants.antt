use Rattle.std.proofs.Common.{◌≡◌, [], take}
use Rattle.resolve_check.specs.Fits.{shapes_in}
use Rattle.resolve_check.specs.Parameters.{named_after}
use Rattle.resolve_check.proofs.signatures.parameters_under.Given as goal

abbrev pub invariant-loop-place : goal.invariant-loop-place
invariant-loop-place l = l.names ≡ named_after (shapes_in l.plain) (take l.place l.parameters) 0 []
