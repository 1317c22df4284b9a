use Rattle.form_skolem.proofs.Made.{atoms_made}
use Rattle.form_skolem.proofs.formula.with_atoms.Goals as goal

pub returns : goal.returns
returns c = atoms_made c.args.first c.args.parameters.now c.in_ok-variables.variables c.in_ok-rest.rest c.args.after c.if-is_empty.ensures c.in_ok-variables.ensures c.in_ok-rest.ensures.ok
