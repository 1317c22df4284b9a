use Rattle.std.proofs.Common.{◌≡◌, ◌&&◌, map, drop, fold, true}
use Rattle.syntax_tree.specs.Levels.{shape, shaped_decl, shaped_binding, shaped_link, shaped_access, with_item, decl_right, may_lead, linked, stepped, every}
use Rattle.syntax_tree.proofs.levels.+shape.Given as goal

abbrev pub invariant-items_right-loop-item : goal.invariant-items_right-loop-item
invariant-items_right-loop-item l = fold with_item (l.right, l.is_first) (map shape (drop l.item-index l.items)) ≡ fold with_item (true, true) (map shape l.items)

abbrev pub invariant-decls_right-loop-decl : goal.invariant-decls_right-loop-decl
invariant-decls_right-loop-decl l =
    fold (λ passed x. passed && decl_right x) l.right (map shaped_decl (drop l.decl-index l.decls)) ≡ every decl_right (map shaped_decl l.decls)

abbrev pub invariant-bindings_right-loop-binding : goal.invariant-bindings_right-loop-binding
invariant-bindings_right-loop-binding l =
    fold (λ passed x. passed && may_lead 0 x.value) l.right (map shaped_binding (drop l.binding-index l.bindings)) ≡ every (λ b. may_lead 0 b.value) (map shaped_binding l.bindings)

abbrev pub invariant-links_shape-loop-link : goal.invariant-links_shape-loop-link
invariant-links_shape-loop-link l =
    fold (linked l.level) l.so_far (map shaped_link (drop l.link-index l.links)) ≡ fold (linked l.level) l.initial.so_far (map shaped_link l.links)

abbrev pub invariant-steps_shape-loop-argument : goal.invariant-steps_shape-loop-argument
invariant-steps_shape-loop-argument l =
    fold (λ passed x. passed && x.right) l.right (map shape (drop l.argument-index l.arguments)) ≡ every (λ x. x.right) (map shape l.arguments)

abbrev pub invariant-steps_shape-loop-step : goal.invariant-steps_shape-loop-step
invariant-steps_shape-loop-step l =
    fold stepped l.so_far (map shaped_access (drop l.step-index l.steps)) ≡ fold stepped l.initial.so_far (map shaped_access l.steps)
