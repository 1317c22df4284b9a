use Rattle.std.proofs.Common.{◌+◌, max, get_or, List, refl, ap, ◌∙◌, arith}
use Rattle.std.proofs.lemmas.List.{get_or_default}
use Rattle.form_measures.specs.declared.weight.Use.{Use}
use Rattle.form_measures.specs.Measured.{up_to}
use Rattle.form_measures.specs.Weights.{most_used, weight_at, arguments_at}
use Rattle.form_measures.proofs.Uses.{called_start, argument_turn, argument_end}
use Rattle.form_measures.proofs.weight.called.Goals as goal

pub loop-used-init : goal.loop-used-init
loop-used-init c = λ d. called_start d (record { own = c.args.body.now.own; uses = c.new.result }) c.args.body.now.own refl c.new.ensures.items

pub loop-used-preserved : goal.loop-used-preserved
loop-used-preserved c = λ d.
    let used = get_or c.as_slice-uses.result.now c.loop-used.used-index (record { parameter = 0; depth = 0 }) in
    argument_turn d c.args.arguments.now c.args.body.now.own c.as_slice-uses.result.now c.loop-used.used-index (c.loop-used.used-index + 1) used (weight_at d c.loop-used.whole) (weight_at d c.in_ok-whole.whole) refl c.loop-used-test.true (get_or_default c.as_slice-uses.result.now c.loop-used.used-index (record { parameter = 0; depth = 0 }) used c.loop-used-test.true)
    (c.loop-used.invariant d) (c.in_ok-whole.ensures d)

pub returns : goal.returns
returns c = λ d.
    argument_end d c.args.arguments.now c.args.body.now.own c.as_slice-uses.result.now c.loop-used.used-index (weight_at d c.loop-used.whole) (omega arith) (c.loop-used.invariant d)
    ∙ ap (λ (us : List Use). up_to (max c.args.body.now.own (most_used (arguments_at d c.args.arguments.now) us))) c.as_slice-uses.ensures.value
