use Rattle.std.proofs.Common.{arith}
use Rattle.std.proofs.lemmas.Option.{slice_get_within}
use Rattle.load_state.proofs.Led.{arguments_each}
use Rattle.load_state.specs.Keys.{texts_of}
use Rattle.load_state.proofs.leads.are_arguments.Goals as goal

pub returns : goal.returns
returns c = λ _.
    arguments_each c.args.instances.now (texts_of c.args.sources.now) c.args.number c.args.names.now c.args.arguments.now (omega arith)
    (λ k n a here there. c.loop-place.invariant k n a (omega (arith, slice_get_within c.args.names.now k n here)) here there)
