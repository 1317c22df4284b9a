use Rattle.std.proofs.Common.{length, slice_get, refl}
use Rattle.std.proofs.lemmas.Option.{slice_get_read, slice_get_past}
use Rattle.form_measures.proofs.Uses.{none_argument_weight, some_argument_weight}
use Rattle.form_measures.proofs.weight.with_argument.Goals as goal

pub returns-in_ok-both-in-Some : goal.returns-in_ok-both-in-Some
returns-in_ok-both-in-Some c = λ d.
    let look = c.in-Some.ensures.lookup in
    some_argument_weight d c.args.whole c.in_ok-both-in-Some.both c.in-Some.argument.now c.args.used.depth (slice_get c.args.arguments.now c.args.used.parameter) (slice_get_read c.args.arguments.now (length c.args.arguments.now) c.args.used.parameter c.in-Some.argument.now refl look.3.0 look.1)
    (c.in_ok-both-in-Some.ensures d)

pub returns-in-None : goal.returns-in-None
returns-in-None c = λ d.
    none_argument_weight d c.args.whole (record { own = c.max.result; uses = c.args.whole.uses }) c.args.used.depth c.max.result c.raised-deeper.result (slice_get c.args.arguments.now c.args.used.parameter)
    (slice_get_past c.args.arguments.now c.args.used.parameter c.in-None.ensures.lookup.3) c.raised-deeper.ensures c.max.ensures refl refl
