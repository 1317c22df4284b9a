use Rattle.bound_uppers.proofs.Sketching.{right_rows}
use Rattle.bound_uppers.proofs.uppers.field_kinds.Goals as goal

pub returns-then-have_columns-clause-columns : goal.returns-then-have_columns-clause-columns
returns-then-have_columns-clause-columns c = right_rows c.args.ups.now c.args.columns c.args.rows.now c.in_ok-kinds.kinds.items (c.have_columns.ensures.0 c.if-have_columns.true) c.in_ok-kinds.ensures.rows
