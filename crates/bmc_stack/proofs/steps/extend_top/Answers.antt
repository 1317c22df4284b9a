use Rattle.std.proofs.Common.{◌≡◌, ◌∙◌, ◌++◌, ◌∷◌, [], ℕ, List, ap, subst}
use Rattle.gate_trait.specs.declared.node.Node.{Node}
use Rattle.bmc_stack.proofs.steps.extend_top.Goals as goal

pub returns-clause-rows : goal.returns-clause-rows
returns-clause-rows g c = λ rest f e.
    let p = c.pop_row-row.ensures.popped.rows rest f e in
    c.in_ok-push_row.ensures.pushed.rows ∙ ap (λ (rs : List (List Node)). rs ++ c.push.new.self ∷ []) p.1
    ∙ ap (λ (r : List Node). rest ++ r ∷ []) (c.in_ok-push.ensures.ok ∙ ap (λ (r : List Node). r ++ c.args.node ∷ []) p.0)
