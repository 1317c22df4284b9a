use Rattle.std.proofs.Common.{arith}
use Rattle.gate_tseitin.proofs.Marks.{above_more}
use Rattle.gate_tseitin.proofs.Asked.{gates_step, gates_end}
use Rattle.gate_tseitin.proofs.fold.ask_gates.Goals as goal

pub ask_where-requires : goal.ask_where-requires
ask_where-requires c = above_more c.loop-number.number _ c.gate.result (omega arith) (c.gates-number-end.ensures.layered c.loop-number.number c.gate.result c.gate.ensures)

pub loop-number-preserved : goal.loop-number-preserved
loop-number-preserved c = λ k. gates_step c.args.asked.now c.loop-number.asked c.ask_where.new.asked c.args.marks.now c.args.store.now c.loop-number.number c.gate.result c.is_marked.result _ k c.gate.ensures c.is_marked.ensures (c.ask_where.ensures k) (c.loop-number.invariant k)

pub returns : goal.returns
returns c = λ k. gates_end c.args.asked.now c.loop-number.asked c.args.marks.now c.args.store.now c.loop-number.number _ k (omega arith) (c.loop-number.invariant k)
