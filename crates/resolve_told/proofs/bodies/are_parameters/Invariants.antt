use Rattle.std.proofs.Common.{map}
use Rattle.std.specs.Prelude.{slice_index}
use Rattle.resolve_said.specs.Said.{standing_of}
use Rattle.resolve_told.specs.Bodies.{IsParameter}
use Rattle.resolve_told.specs.Lists.{EachBefore}
use Rattle.resolve_told.specs.Views.{declared}
use Rattle.resolve_told.proofs.bodies.are_parameters.Given as goal

abbrev pub invariant-loop-place : goal.invariant-loop-place
invariant-loop-place l = EachBefore (λ n d p. IsParameter (standing_of l.site) (slice_index l.columns n) d p) l.place (map declared l.all) l.parameters
