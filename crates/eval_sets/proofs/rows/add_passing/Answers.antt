use Rattle.std.proofs.Common.{rules, ◌∙◌}
use Rattle.eval_sets.specs.Rows.{Passes, GivesItself}
use Rattle.eval_sets.proofs.Gather.{gains_put}
use Rattle.eval_sets.proofs.RowLaw.{itself_row}
use Rattle.eval_sets.proofs.rows.add_passing.Goals as goal

pub returns : goal.returns
returns c =
    let passed : Passes c.args.rule c.args.atoms.now c.args.tuple.now = search rules in
    gains_put c.put.result c.args.all.now c.put.new.set (GivesItself c.args.rule c.args.atoms.now) c.args.tuple.now c.in_ok-row.row
    (itself_row c.args.rule c.args.atoms.now c.args.tuple.now c.in_ok-row.row (c.in_ok-row.ensures ∙ c.numbers.ensures.same) passed)
    c.put.ensures.ok
