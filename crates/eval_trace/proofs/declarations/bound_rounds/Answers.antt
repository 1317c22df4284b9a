use Rattle.std.proofs.Common.{ap, length, arith, rules}
use Rattle.eval_trace.specs.Asked.{FieldRepeats}
use Rattle.eval_trace.proofs.RoundLaw.{none_repeats, more_repeats, field_keeps, field_here, fields_repeat}
use Rattle.eval_trace.proofs.declarations.bound_rounds.Goals as goal

pub loop-place-init : goal.loop-place-init
loop-place-init c =
    none_repeats (FieldRepeats c.args.judge.now) (field_keeps c.args.judge.now) 0

pub loop-place-preserved : goal.loop-place-preserved
loop-place-preserved c =
    more_repeats (FieldRepeats c.args.judge.now) (field_keeps c.args.judge.now) c.loop-place.place c.loop-place.most c.rounds_of_bound-rounds.result c.max-more.result c.loop-place.invariant (λ few. field_here c.args.judge.now c.loop-place.place c.get-field.result.now (rw c.field_list-fields.ensures at c.get-field.ensures) c.rounds_of_bound-rounds.result (c.rounds_of_bound-rounds.ensures few)) (search rules)

pub returns : goal.returns
returns c =
    fields_repeat c.args.judge.now c.loop-place.place c.loop-place.most (omega (arith, ap length c.field_list-fields.ensures)) c.loop-place.invariant
