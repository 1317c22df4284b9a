use Rattle.resolve_check.proofs.Whole.{formulas_end}
use Rattle.resolve_check.proofs.keeps.has_right_formulas.Goals as goal

pub returns : goal.returns
returns c = formulas_end c.args.model.now c.as_slice-fact_list.result.now c.as_slice-assert_list.result.now c.as_slice-body_list.result.now c.as_slice-command_list.result.now c.in_ok-facts.facts c.in_ok-asserts.asserts c.in_ok-bodies.bodies c.in_ok-commands.commands c.both.result c.both-2.result c.both-3.result c.as_slice-fact_list.ensures c.as_slice-assert_list.ensures c.as_slice-body_list.ensures c.as_slice-command_list.ensures c.in_ok-facts.ensures c.in_ok-asserts.ensures c.in_ok-bodies.ensures c.in_ok-commands.ensures c.both.ensures c.both-2.ensures c.both-3.ensures
