use Rattle.std.proofs.Common.{rules, arith, refl, map, ap, sym, ◌∙◌, min, max, ◌-◌, ◌^◌}
use Rattle.syntax_tree.specs.Depth.{depth_of, deepest, step_depth}
use Rattle.syntax_tree.proofs.Depths.{deepest_next, deeper_next, deeper_all, depth-empty, depth-filled, implication_depth, depth-Name, depth-At, depth-Constant, depth-Number, depth-Negative, depth-Literal, depth-Parenthesis, depth-Comprehension, depth-Quantified, depth-Let, depth-Sequence, depth-Compare, depth-Prefix, depth-Infix, depth-Join, depth-Prime}
use Rattle.syntax_tree.proofs.nesting.+depth.Goals as goal
use Rattle.syntax_tree.proofs.nesting.+depth.Goals.{deepest_step-in-Dot, deepest_step-in-Bracket+else-loop-argument-test}

pub depth-returns-in-Parenthesis : goal.depth-returns-in-Parenthesis
depth-returns-in-Parenthesis t c = grind (arith, depth-Parenthesis)

pub depth-returns-in-Comprehension : goal.depth-returns-in-Comprehension
depth-returns-in-Comprehension t c = grind (arith, depth-Comprehension)

pub depth-returns-in-Quantified : goal.depth-returns-in-Quantified
depth-returns-in-Quantified t c = grind (arith, depth-Quantified)

pub depth-returns-in-Let : goal.depth-returns-in-Let
depth-returns-in-Let t c = grind (arith, depth-Let)

pub depth-returns-in-Sequence : goal.depth-returns-in-Sequence
depth-returns-in-Sequence t c = grind (arith, depth-Sequence)

pub depth-returns-in-Compare : goal.depth-returns-in-Compare
depth-returns-in-Compare t c = grind (arith, depth-Compare)

pub depth-returns-in-Prefix : goal.depth-returns-in-Prefix
depth-returns-in-Prefix t c = grind (arith, depth-Prefix)

pub depth-returns-in-Infix : goal.depth-returns-in-Infix
depth-returns-in-Infix t c = grind (arith, depth-Infix)

pub depth-returns-in-Join : goal.depth-returns-in-Join
depth-returns-in-Join t c = grind (arith, depth-Join)

pub depth-returns-in-Prime : goal.depth-returns-in-Prime
depth-returns-in-Prime t c = grind (arith, depth-Prime)

pub depth-returns-in-Name : goal.depth-returns-in-Name
depth-returns-in-Name t c = grind (arith, depth-Name)

pub depth-returns-in-Name-2 : goal.depth-returns-in-Name-2
depth-returns-in-Name-2 t c = grind (arith, depth-At)

pub depth-returns-in-Name-3 : goal.depth-returns-in-Name-3
depth-returns-in-Name-3 t c = grind (arith, depth-Constant)

pub depth-returns-in-Name-4 : goal.depth-returns-in-Name-4
depth-returns-in-Name-4 t c = grind (arith, depth-Number)

pub depth-returns-in-Name-5 : goal.depth-returns-in-Name-5
depth-returns-in-Name-5 t c = grind (arith, depth-Negative)

pub depth-returns-in-Name-6 : goal.depth-returns-in-Name-6
depth-returns-in-Name-6 t c = grind (arith, depth-Literal)

pub deepest_of-loop-item-preserved : goal.deepest_of-loop-item-preserved
deepest_of-loop-item-preserved t c = deepest_next depth_of _ c.loop-item.item-index c.item-item.result _ c.loop-item.most _ c.depth.result c.loop-item-test.true c.item-item.is c.loop-item.invariant c.depth.ensures c.deeper-most.ensures

pub deepest_bound-loop-decl-preserved : goal.deepest_bound-loop-decl-preserved
deepest_bound-loop-decl-preserved t c = deepest_next (λ d. depth_of d.bound) _ c.loop-decl.decl-index c.decl-item.result _ c.loop-decl.most _ c.depth.result c.loop-decl-test.true c.decl-item.is c.loop-decl.invariant c.depth.ensures c.deeper-most.ensures

pub deepest_value-loop-binding-preserved : goal.deepest_value-loop-binding-preserved
deepest_value-loop-binding-preserved t c = deepest_next (λ b. depth_of b.value) _ c.loop-binding.binding-index c.binding-item.result _ c.loop-binding.most _ c.depth.result c.loop-binding-test.true c.binding-item.is c.loop-binding.invariant c.depth.ensures c.deeper-most.ensures

pub deepest_link-loop-link-preserved : goal.deepest_link-loop-link-preserved
deepest_link-loop-link-preserved t c = deepest_next (λ l. depth_of l.1) _ c.loop-link.link-index c.link-item.result _ c.loop-link.most _ c.depth.result c.loop-link-test.true c.link-item.is c.loop-link.invariant c.depth.ensures c.deeper-most.ensures

pub depth-returns-then-len-eq0 : goal.depth-returns-then-len-eq0
depth-returns-then-len-eq0 t c = grind (arith, depth-empty)

pub depth-returns-else-len-eq0 : goal.depth-returns-else-len-eq0
depth-returns-else-len-eq0 t c = grind (arith, depth-filled)

pub depth-returns-in-Implication : goal.depth-returns-in-Implication
depth-returns-in-Implication t c = rw c.in-Implication.is (implication_depth _ _ _ _ _ _ _ _ _ _ _
    (search rules) (search rules) (search rules) c.deeper-parts.ensures c.deeper-in-Implication.ensures c.above-in-Implication.ensures)

pub deepest_step-loop-argument-preserved : goal.deepest_step-loop-argument-preserved
deepest_step-loop-argument-preserved t c = deeper_next depth_of _ c.loop-argument.argument-index c.argument-item.result _ _ c.loop-argument.most _ _ c.loop-argument-test.true c.argument-item.is c.loop-argument.invariant c.depth-in-loop-argument.ensures c.deeper-most-in-loop-argument.ensures

pub deepest_step-loop-step-preserved : goal.deepest_step-loop-step-preserved
deepest_step-loop-step-preserved t c =
    elim c.match-step.branch [
      | deepest_step-in-Dot w ↦ deepest_next step_depth _ c.loop-step.step-index c.step-item.result _ c.loop-step.most _ w.depth.result c.loop-step-test.true c.step-item.is c.loop-step.invariant
          (w.depth.ensures ∙ ap (λ s. min (step_depth s) (2 ^ 32 - 1)) (sym w.in-Dot.is)) (w.most-is ∙ w.deeper-most.ensures)
      | deepest_step-in-Bracket+else-loop-argument-test w ↦
          let had = c.loop-step.most in
          deepest_next step_depth _ c.loop-step.step-index c.step-item.result _ had _ _ c.loop-step-test.true c.step-item.is c.loop-step.invariant refl
          (w.most-is ∙ (deeper_all depth_of _ w.loop-argument.argument-index (2 ^ 32 - 1) had _ w.loop-argument.auto.argument-index-end w.loop-argument-test.false w.loop-argument.invariant
          ∙ (ap (λ xs. max had (min (deepest (map depth_of xs)) (2 ^ 32 - 1))) w.as_slice-arguments.ensures
          ∙ ap (λ s. max had (min (step_depth s) (2 ^ 32 - 1))) (sym w.in-Bracket.is))))
    ]
