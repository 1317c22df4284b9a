use Rattle.std.proofs.Common.{take}
use Rattle.load_state.specs.Opens.{AreFits}
use Rattle.load_state.proofs.request.arguments_of.Given as goal

abbrev pub invariant-loop-place : goal.invariant-loop-place
invariant-loop-place l = AreFits (take l.place l.names) l.arguments
