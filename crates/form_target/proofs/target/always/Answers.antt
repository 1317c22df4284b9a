use Rattle.std.proofs.Common.{ap}
use Rattle.core_tree.specs.declared.operators.TemporalUnary.TheVariants.{Always}
use Rattle.core_tree.specs.Trees.{claim_of, temporal}
use Rattle.form_target.proofs.Targets.{written_always}
use Rattle.form_target.proofs.target.always.Goals as goal

pub returns : goal.returns
returns c = written_always c.args.model.now.bodies (claim_of c.args.formula.now) (claim_of c.in_ok-flat.flat) (temporal Always (claim_of c.in_ok-new.field-0.value)) c.kernel.result (ap (λ f. temporal Always (claim_of f)) c.in_ok-new.ensures.ok) c.in_ok-flat.ensures.free c.in_ok-flat.ensures.same c.kernel.ensures.forms c.kernel.ensures.same
