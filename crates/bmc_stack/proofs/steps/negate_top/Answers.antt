use Rattle.std.proofs.Common.{◌≡◌, ◌∙◌, ◌++◌, ◌∷◌, [], ℕ, List, ap, subst}
use Rattle.gate_trait.specs.declared.node.Node.{Node}
use Rattle.bmc_stack.specs.Rows.{IsNegated}
use Rattle.bmc_stack.proofs.RowLaws.{negated_is, top_of}
use Rattle.bmc_stack.proofs.steps.negate_top.Goals as goal

pub returns-clause-rows : goal.returns-clause-rows
returns-clause-rows g c = λ rest f e.
    let value = g.G.Gates.node_value c.args.gates.now in
    let p = c.pop_row-row.ensures.popped.rows rest f e in
    top_of rest _ _ c.in_ok-new.new (IsNegated value f) c.in_ok-push_row.ensures.pushed.rows p.1 (negated_is value f c.pop_row-row.result c.in_ok-new.new p.0 c.in_ok-new.ensures.length c.in_ok-new.ensures.truth)
