use Rattle.core_tree.specs.Trees.{claim_of}
use Rattle.form_target.proofs.Targets.{written}
use Rattle.form_target.proofs.target.written_out.Goals as goal

pub returns : goal.returns
returns c = written c.args.model.now.bodies (claim_of c.args.formula.now) (claim_of c.in_ok-flat.flat) c.kernel.result c.in_ok-flat.ensures.free c.in_ok-flat.ensures.same c.kernel.ensures.forms c.kernel.ensures.same
