use Rattle.std.proofs.Common.{◌≡◌, ◌-◌, ◌^◌, map, take, min, max}
use Rattle.syntax_tree.specs.Depth.{depth_of, deepest, step_depth}
use Rattle.syntax_tree.proofs.nesting.+depth.Given as goal

abbrev pub invariant-deepest_of-loop-item : goal.invariant-deepest_of-loop-item
invariant-deepest_of-loop-item l = l.most ≡ min (deepest (map depth_of (take l.item-index l.items))) (2 ^ 32 - 1)

abbrev pub invariant-deepest_bound-loop-decl : goal.invariant-deepest_bound-loop-decl
invariant-deepest_bound-loop-decl l = l.most ≡ min (deepest (map (λ d. depth_of d.bound) (take l.decl-index l.decls))) (2 ^ 32 - 1)

abbrev pub invariant-deepest_value-loop-binding : goal.invariant-deepest_value-loop-binding
invariant-deepest_value-loop-binding l = l.most ≡ min (deepest (map (λ b. depth_of b.value) (take l.binding-index l.bindings))) (2 ^ 32 - 1)

abbrev pub invariant-deepest_link-loop-link : goal.invariant-deepest_link-loop-link
invariant-deepest_link-loop-link l = l.most ≡ min (deepest (map (λ k. depth_of k.1) (take l.link-index l.links))) (2 ^ 32 - 1)

abbrev pub invariant-deepest_step-loop-step : goal.invariant-deepest_step-loop-step
invariant-deepest_step-loop-step l = l.most ≡ min (deepest (map step_depth (take l.step-index l.steps))) (2 ^ 32 - 1)

abbrev pub invariant-deepest_step-loop-argument : goal.invariant-deepest_step-loop-argument
invariant-deepest_step-loop-argument l = l.most ≡ max l.initial.most (min (deepest (map depth_of (take l.argument-index l.arguments))) (2 ^ 32 - 1))
