use Rattle.std.proofs.Common.{◌∙◌}
use Rattle.std.proofs.lemmas.Option.{IfSome_then}
use Rattle.resolve_read.specs.At.{at_of, scope_of}
use Rattle.resolve_read.proofs.Picking.{own_case}
use Rattle.resolve_read.proofs.candidates.picked_outer.Goals as goal

pub returns : goal.returns
returns c = IfSome_then c.in_ok-chosen-2.chosen c.in_ok-chosen-2.ensures (λ x chooses alone none.
    own_case (at_of c.args.spot.now) (scope_of c.args.locals.now) c.args.name.now x.meanings x.number c.args.text.now c.as_slice.result.now (c.as_slice.ensures ∙ c.in_ok-own.ensures) chooses alone none)
