use Rattle.std.proofs.Common.{map, subst}
use Rattle.core_tree.specs.Trees.{claim_of}
use Rattle.resolve_said.specs.Said.{standing_of}
use Rattle.resolve_told.specs.Views.{declared}
use Rattle.resolve_told.specs.Commands.{RunsWith}
use Rattle.resolve_told.proofs.Scoped.{parameters_are}
use Rattle.resolve_told.proofs.asked.runs_predicate.Goals as goal

pub returns : goal.returns
returns c = λ same.
    subst (λ ds. RunsWith (standing_of c.args.site.now) c.args.body ds (claim_of c.args.formula.now))
    (parameters_are (map declared c.in_ok-all.all.items) c.has_receiver-has_this.result c.in_ok-tree.tree c.args.predicate.now.receiver c.args.predicate.now.parameters c.has_receiver-has_this.ensures c.in_ok-tree.ensures c.in_ok-all.ensures)
    (subst (λ all. RunsWith (standing_of c.args.site.now) c.args.body (map declared all) (claim_of c.args.formula.now)) c.as_slice.ensures.value (c.in_ok-is_right.ensures same))
