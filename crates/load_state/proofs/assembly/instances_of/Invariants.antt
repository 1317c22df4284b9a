use Rattle.std.proofs.Common.{◌≡◌, map}
use Rattle.load_state.specs.Keys.{pair_of, pairs_of}
use Rattle.load_state.proofs.assembly.instances_of.Given as goal

abbrev pub invariant-loop-key : goal.invariant-loop-key
invariant-loop-key l = pairs_of l.instances ≡ map pair_of l.yielded
