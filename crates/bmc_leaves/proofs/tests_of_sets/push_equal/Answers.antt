use Rattle.std.proofs.Common.{◌∙◌, ◌++◌, ◌∷◌, [], List, ap, subst}
use Rattle.gate_trait.specs.declared.node.Node.{Node}
use Rattle.gate_trait.specs.Built.{AllIn}
use Rattle.core_tree.specs.Trees.{inside}
use Rattle.gate_sets.specs.Belonging.{AllLists}
use Rattle.bmc_leaves.proofs.RightLaws.{equal_right}
use Rattle.bmc_leaves.proofs.KeptLaws.{all_last, right_kept, again_right}
use Rattle.bmc_leaves.proofs.KeptLaws.{two_tops}
use Rattle.bmc_leaves.proofs.tests_of_sets.push_equal.Goals as goal

pub returns-clause-right : goal.returns-clause-right
returns-clause-right g c = λ r e f left right.
    let value = g.G.Gates.node_value in
    let belongs = g.G.Gates.belongs in
    let first = c.args.gates.now in
    let now = c.push_inside.new.gates in
    let later = c.push_inside-2.new.gates in
    let rows = c.args.store.now.rows.items in
    let beside = c.in_ok-push_inside.ensures.beside in
    let t = c.in_ok-push_inside.ensures.right r e f left right in
    let again_e = again_right belongs value r first now c.push_inside.ensures.keeps c.args.store.now c.push_inside.new.store e c.args.a.now c.requires beside left in
    let again_f = again_right belongs value r first now c.push_inside.ensures.keeps c.args.store.now c.push_inside.new.store f c.args.b.now c.requires beside right in
    let u = c.in_ok-push_inside-2.ensures.right r f e again_f again_e in
    let all = subst (λ (ns : List (List Node)). AllLists (belongs now) ns) t.1 c.in_ok-push_inside.ensures.stored.rows in
    let kept = right_kept belongs value r now later c.push_inside-2.ensures.keeps (inside e f) t.0 (all_last (λ n. AllIn (belongs now) n) rows t.0 all) t.2 in
    let b = c.in_ok-both_top.ensures.rows rows t.0 u.0 (u.1 ∙ ap (λ (ns : List (List Node)). ns ++ u.0 ∷ []) t.1 ∙ two_tops rows t.0 u.0) in
    (b.0, b.1, equal_right r (value later) (value c.both_top.new.gates) e f t.0 u.0 b.0 kept u.2 b.2)
