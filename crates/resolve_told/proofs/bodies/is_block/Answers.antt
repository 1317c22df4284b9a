use Rattle.core_tree.specs.Trees.{claim_of}
use Rattle.resolve_said.specs.Said.{standing_of, SaysFormula}
use Rattle.resolve_told.proofs.Scoped.{scoped}
use Rattle.resolve_told.proofs.bodies.is_block.Goals as goal

pub returns : goal.returns
returns c = λ same.
    scoped (λ s. SaysFormula (standing_of c.args.site.now) s c.args.predicate.now.block (claim_of c.args.formula.now)) c.has_receiver-has_this.result c.decls_of-decls.result.now c.args.predicate.now.receiver c.args.predicate.now.parameters
    c.has_receiver-has_this.ensures c.decls_of-decls.ensures (c.in_ok-is_said.ensures same)
