use Rattle.resolve_said.specs.Said.{standing_of}
use Rattle.resolve_told.specs.Bodies.{IsBound}
use Rattle.resolve_told.proofs.Scoped.{scoped}
use Rattle.resolve_told.proofs.bodies.is_result.Goals as goal

pub returns : goal.returns
returns c = λ same.
    scoped (λ s. IsBound (standing_of c.args.site.now) s c.args.function.now.result.word c.args.function.now.result.tree c.args.bound.now) c.has_receiver-has_this.result c.decls_of-decls.result.now c.args.function.now.receiver c.args.function.now.parameters
    c.has_receiver-has_this.ensures c.decls_of-decls.ensures (c.in_ok-is_said.ensures same)
