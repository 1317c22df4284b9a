use Rattle.std.proofs.Common.{arith, rules, map, take}
use Rattle.std.specs.HashMap.{get_by_text}
use Rattle.load_state.proofs.Counts.{parameters_next, parameters_before, parameters_all}
use Rattle.load_state.proofs.table.add_parameters.Goals as goal

pub loop-number-preserved : goal.loop-number-preserved
loop-number-preserved c = λ none.
    parameters_next c.args.parameters.now c.loop-number.number _ c.index-parameters-number.result c.text.result.now (get_by_text c.note_parameter.new.known) (omega arith) c.index-parameters-number.is (omega arith) (search rules)
    (c.in_ok-note_parameter.ensures (map (λ p. p.name.name) (take c.loop-number.number c.args.parameters.now)) (c.loop-number.invariant none)
    (parameters_before c.args.parameters.now c.loop-number.number (omega arith)))

pub returns : goal.returns
returns c = λ none. parameters_all c.args.parameters.now c.loop-number.number (get_by_text c.loop-number.known) (omega arith) (c.loop-number.invariant none)
