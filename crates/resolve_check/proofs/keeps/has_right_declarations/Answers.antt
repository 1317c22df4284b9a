use Rattle.resolve_check.proofs.Whole.{declarations_end}
use Rattle.resolve_check.proofs.keeps.has_right_declarations.Goals as goal

pub returns : goal.returns
returns c = declarations_end c.args.model.now c.args.shape.now c.as_slice-sigs.result.now c.in_ok-numbers.numbers c.are_falling-falling.result c.in_ok-right.right c.in_ok-fields.fields c.both.result c.both-2.result c.as_slice-sigs.ensures c.are_falling-falling.ensures c.in_ok-right.ensures c.in_ok-fields.ensures c.both.ensures c.both-2.ensures
