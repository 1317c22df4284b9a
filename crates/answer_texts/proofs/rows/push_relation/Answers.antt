use Rattle.std.proofs.Common.{arith}
use Rattle.answer_texts.specs.Kept.{kept_first}
use Rattle.answer_texts.proofs.TableRows.{no_rows}
use Rattle.answer_texts.proofs.rows.push_relation.Goals as goal

pub returns-then-place-len : goal.returns-then-place-len
returns-then-place-len c =
    no_rows (kept_first c.args.layout.now) c.args.atoms.now c.args.bounds.now c.args.state c.args.relation.now c.args.table.now (omega (arith, c.len.ensures, c.if-place-len.true))
