use Rattle.resolve_check.proofs.Whole.{model_end}
use Rattle.resolve_check.proofs.keeps.has_right_parts.Goals as goal

pub returns : goal.returns
returns c = model_end c.args.model.now c.args.shape.now c.len-count.result c.are_few-few.result c.in_ok-declarations.declarations c.in_ok-formulas.formulas c.both.result c.both-2.result c.len-count.ensures c.are_few-few.ensures c.in_ok-declarations.ensures c.in_ok-formulas.ensures c.both.ensures c.both-2.ensures
