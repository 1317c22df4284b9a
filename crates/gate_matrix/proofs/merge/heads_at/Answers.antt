use Rattle.std.proofs.Common.{arith}
use Rattle.gate_matrix.proofs.MergeLaw.{front_first, front_second}
use Rattle.gate_matrix.proofs.merge.heads_at.Goals as goal

pub returns-else-j-b : goal.returns-else-j-b
returns-else-j-b c = front_second c.args.a.now c.args.b.now c.args.i c.args.j (omega arith) (omega arith)

pub returns-then-j-b-2 : goal.returns-then-j-b-2
returns-then-j-b-2 c = front_first c.args.a.now c.args.b.now c.args.i c.args.j (omega arith) (omega arith)
