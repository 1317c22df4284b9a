use Rattle.std.proofs.Common.{◌≡◌, map, take}
use Rattle.resolve_check.specs.Fits.{shapes_in, signature_in}
use Rattle.resolve_check.specs.Parameters.{signature_under}
use Rattle.resolve_check.proofs.signatures.body_shapes.Given as goal

abbrev pub invariant-loop-body : goal.invariant-loop-body
invariant-loop-body l = map signature_in l.all ≡ map (signature_under (shapes_in l.plain)) (take l.body-index l.bodies)
