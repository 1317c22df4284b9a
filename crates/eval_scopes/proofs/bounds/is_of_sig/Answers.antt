use Rattle.eval_scopes.proofs.BoundLaw.{of_sig}
use Rattle.eval_scopes.proofs.bounds.is_of_sig.Goals as goal

pub returns : goal.returns
returns c =
    of_sig c.args.setting.now c.is_atom_of.result c.model-model.result.now c.args.sig c.args.atom c.len.result c.standing-column.result c.model-model.ensures.now c.len.ensures c.standing-column.ensures c.is_atom_of.ensures
