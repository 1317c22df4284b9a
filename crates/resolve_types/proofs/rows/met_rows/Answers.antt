use Rattle.std.proofs.Common.{arith}
use Rattle.resolve_types.proofs.Meetings.{met_unequal}
use Rattle.resolve_types.proofs.rows.met_rows.Goals as goal

pub returns-then-a-b : goal.returns-then-a-b
returns-then-a-b c = met_unequal c.args.lines.now c.args.a.now c.args.b.now (λ e. omega arith)
