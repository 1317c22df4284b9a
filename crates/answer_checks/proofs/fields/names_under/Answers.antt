use Rattle.core_tree.specs.Trees.{variable_of, variable_list}
use Rattle.std.proofs.Common.{map}
use Rattle.resolve_type_check.specs.Names.{names_of}
use Rattle.answer_checks.proofs.Placings.{under_some}
use Rattle.answer_checks.proofs.fields.names_under.Goals as goal

pub returns : goal.returns
returns c = under_some c.args.model.now c.args.known c.args.quantity (variable_list (map variable_of c.args.list.now)) (names_of c.args.names.now) c.names_after.result (c.is_some-some.ensures c.if-not-some.false) c.names_after.ensures
