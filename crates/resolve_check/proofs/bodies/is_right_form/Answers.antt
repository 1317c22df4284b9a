use Rattle.resolve_check.specs.Names.{names_of}
use Rattle.resolve_check.proofs.Ends.{test_end, value_end}
use Rattle.resolve_check.proofs.bodies.is_right_form.Goals as goal

pub returns-in-Test : goal.returns-in-Test
returns-in-Test c = rw c.in-Test.is (test_end c.args.model.now c.args.shape.now c.requires c.args.rank (names_of c.args.names.now) c.in-Test.formula c.is_right.result c.is_right.ensures)

pub returns-in-Term : goal.returns-in-Term
returns-in-Term c = rw c.in-Term.is (value_end c.args.model.now c.args.shape.now c.requires c.args.rank (names_of c.args.names.now) c.in-Term.expr c.in-Term.bound c.is_right_value.result c.is_right_value.ensures)
