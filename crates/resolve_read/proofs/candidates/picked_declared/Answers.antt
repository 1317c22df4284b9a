use Rattle.std.proofs.Common.{◌∙◌}
use Rattle.std.proofs.lemmas.Option.{IfSome_then}
use Rattle.resolve_read.specs.At.{at_of}
use Rattle.resolve_read.proofs.Picking.{declared_case}
use Rattle.resolve_read.proofs.candidates.picked_declared.Goals as goal

pub returns : goal.returns
returns c = IfSome_then c.in_ok-chosen.chosen c.in_ok-chosen.ensures (λ x chooses scope shown.
    declared_case (at_of c.args.spot.now) scope c.args.name.now x.meanings x.number c.in_ok-found.found.items c.as_slice.result.now c.in_ok-found.ensures (c.as_slice.ensures.value ∙ c.in_ok-decls.ensures) chooses shown)
