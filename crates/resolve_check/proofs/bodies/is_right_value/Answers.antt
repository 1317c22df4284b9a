use Rattle.resolve_check.specs.Names.{names_of}
use Rattle.resolve_check.proofs.Ends.{value_has}
use Rattle.resolve_check.proofs.bodies.is_right_value.Goals as goal

pub returns-in-Some : goal.returns-in-Some
returns-in-Some c = value_has c.args.shape.now (names_of c.args.names.now) c.args.limits c.args.expr.now c.args.bound.now c.in_ok-columns.columns c.in_ok-bound_columns.field-0 c.in-Some.wanted c.has_columns.result c.in_ok-columns.ensures c.in_ok-bound_columns.ensures c.in-Some.is c.has_columns.ensures
