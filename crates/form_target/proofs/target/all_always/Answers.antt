use Rattle.std.proofs.Common.{[], take, sym, subst}
use Rattle.core_tree.specs.declared.operators.TemporalUnary.TheVariants.{Always}
use Rattle.core_tree.specs.Trees.{claim_of, temporal}
use Rattle.form_target.specs.Targets.{Adds, always_claims}
use Rattle.form_target.proofs.Targets.{added_nothing}
use Rattle.form_target.proofs.target.all_always.Goals as goal

pub loop-formula-init : goal.loop-formula-init
loop-formula-init c =
    subst (λ all. Adds c.args.model.now.bodies [] all (always_claims (take 0 c.args.list.now))) (sym c.new-all.ensures) (added_nothing (λ f. temporal Always (claim_of f)) c.args.model.now.bodies [] c.args.list.now)
