use Rattle.std.proofs.Common.{◌≡◌, ap, sym, ◌∙◌, arith}
use Rattle.gate_tseitin.specs.Named.{others, input_of}
use Rattle.gate_tseitin.proofs.Naming.{count_step, some_others, none_others}
use Rattle.gate_tseitin.proofs.names.count_inputs.Goals as goal
use Rattle.gate_tseitin.proofs.names.count_inputs.Goals.{then-is_some, else-is_some}

pub loop-number-preserved : goal.loop-number-preserved
loop-number-preserved c =
    let step = count_step c.args.store.now c.loop-number.number c.gate.result c.loop-number.count c.gate.ensures c.loop-number.invariant.total in
    elim c.if-is_some.branch [
      | then-is_some w ↦ (let o : others (input_of c.gate.result) ≡ 0 = ap others (sym c.input_of.ensures) ∙ some_others c.input_of.result (sym c.is_some.ensures ∙ w.if-is_some.true) in
          record { total = omega (arith, step, o, w.count-is); within = omega (arith, w.count-is) })
      | else-is_some w ↦ (let o : others (input_of c.gate.result) ≡ 1 = ap others (sym c.input_of.ensures) ∙ none_others c.input_of.result (sym c.is_some.ensures ∙ w.if-is_some.false) in
          record { total = omega (arith, step, o, w.count-is); within = omega (arith, w.count-is) })
    ]
