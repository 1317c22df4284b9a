use Rattle.resolve_said.proofs.Taken.{formula_case}
use Rattle.resolve_said.proofs.part.split_formula.Goals as goal

pub returns-in_ok-taken-in-Call : goal.returns-in_ok-taken-in-Call
returns-in_ok-taken-in-Call c = formula_case c.args.model.now.bodies _ _ c.in-Call.body c.in-Call.list c.as_slice-arguments.result.now c.args.formula.now c.in-Call.is c.as_slice-arguments.ensures.value (c.in_ok-taken-in-Call.ensures c.args.model.now.bodies) (c.is_tested.ensures c.if-not-is_tested.false)
