use Rattle.std.proofs.Common.{map, subst}
use Rattle.resolve_said.specs.Said.{standing_of}
use Rattle.resolve_told.specs.Bodies.{AreParameters}
use Rattle.resolve_told.specs.Views.{declared}
use Rattle.resolve_told.proofs.Scoped.{parameters_are}
use Rattle.resolve_told.proofs.bodies.has_parameters.Goals as goal

pub returns : goal.returns
returns c = λ same.
    subst (λ ds. AreParameters (standing_of c.args.site.now) c.args.columns.now ds c.args.parameters.now)
    (parameters_are (map declared c.in_ok-all.all.items) c.has_receiver-has_this.result c.in_ok-tree.tree c.args.receiver.now c.args.written.now c.has_receiver-has_this.ensures c.in_ok-tree.ensures c.in_ok-all.ensures)
    (subst (λ all. AreParameters (standing_of c.args.site.now) c.args.columns.now (map declared all) c.args.parameters.now) c.as_slice.ensures.value (c.in_ok-are_right.ensures same))
