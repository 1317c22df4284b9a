use Rattle.resolve_said.proofs.Taken.{test_case}
use Rattle.resolve_said.proofs.names.is_test.Goals as goal

pub returns-else-not-is_bare : goal.returns-else-not-is_bare
returns-else-not-is_bare c = λ h. let bare = c.is_bare.ensures c.if-not-is_bare.false in test_case c.args.model.now.bodies c.in-Call.found c.args.body bare.0 c.in-Call.list c.as_slice.result.now c.args.formula.now c.in-Call.is c.as_slice.ensures.value bare.1 (c.is_tested.ensures h)
