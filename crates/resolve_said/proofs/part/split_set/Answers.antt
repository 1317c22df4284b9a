use Rattle.resolve_said.proofs.Taken.{joined_case, set_case}
use Rattle.resolve_said.proofs.part.split_set.Goals as goal

pub returns-else-not-is_join : goal.returns-else-not-is_join
returns-else-not-is_join c = joined_case c.args.model.now.bodies c.args.expr.now c.in-Combine.op c.in-Combine.a c.in-Combine.b c.in-Combine.is (c.is_join.ensures c.if-not-is_join.false) c.deref-in-Combine.result.now c.deref.result.now c.deref-in-Combine.ensures c.deref.ensures

pub returns-in_ok-taken-in-Call : goal.returns-in_ok-taken-in-Call
returns-in_ok-taken-in-Call c = set_case c.args.model.now.bodies _ _ c.in-Call.body c.in-Call.list c.as_slice-arguments.result.now c.args.expr.now c.in-Call.is c.as_slice-arguments.ensures.value (c.in_ok-taken-in-Call.ensures c.args.model.now.bodies) (c.has_value.ensures c.if-not-has_value.false)
