use Rattle.form_inline.proofs.Tails.{inlined}
use Rattle.form_inline.proofs.writing.inline.Goals as goal

pub returns-clause-same : goal.returns-clause-same
returns-clause-same c = inlined c.args.model.now.bodies c.len.result c.args.formula.now c.written_formula.result c.len.ensures c.written_formula.ensures.same
