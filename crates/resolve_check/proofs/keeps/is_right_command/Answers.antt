use Rattle.resolve_check.proofs.Whole.{command_end}
use Rattle.resolve_check.proofs.keeps.is_right_command.Goals as goal

pub returns : goal.returns
returns c = command_end c.args.model.now c.args.command.now c.len-bodies.result c.is_body-there.result c.has_atom_parameters-atoms.result c.in_ok-right.right c.both.result c.len-bodies.ensures c.is_body-there.ensures c.has_atom_parameters-atoms.ensures c.in_ok-right.ensures c.both.ensures
