use Rattle.form_skolem.proofs.Opening.{turn_before, turn_more}
use Rattle.form_skolem.proofs.open.fields_of.Goals as goal

pub loop-place-preserved : goal.loop-place-preserved
loop-place-preserved c = record {
  fields = λ new rest. c.loop-place.invariant.fields new (turn_before c.args.sigs.now c.loop-place.fields c.typed_field.new.fields new c.args.parameters.now c.args.types.now c.loop-place.place c.index-parameters-place.result c.in_ok-number.number
      c.loop-place-test.true c.index-parameters-place.is c.in_ok-number.ensures rest);
  numbers = turn_more c.args.sigs.now c.args.fields.now c.loop-place.fields c.typed_field.new.fields c.args.parameters.now c.args.types.now c.loop-place.place c.index-parameters-place.result c.in_ok-number.number c.loop-place.numbers.items c.push.new.self.items
      c.loop-place-test.true c.index-parameters-place.is c.in_ok-number.ensures c.in_ok-push.ensures.items c.loop-place.invariant.numbers;
}
