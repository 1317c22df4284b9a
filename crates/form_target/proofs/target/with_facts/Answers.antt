use Rattle.core_tree.specs.declared.model.Fact.{Fact}
use Rattle.core_tree.specs.Trees.{claim_of}
use Rattle.form_target.proofs.Targets.{added_nothing}
use Rattle.form_target.proofs.target.with_facts.Goals as goal

pub loop-fact-init : goal.loop-fact-init
loop-fact-init c = added_nothing (λ (f : Fact). claim_of f.formula) c.args.model.now.bodies c.args.before c.args.facts.now
