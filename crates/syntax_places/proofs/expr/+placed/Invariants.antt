use Rattle.std.proofs.Common.{◌≡◌, map, drop}
use Rattle.syntax_tree.specs.declared.token.Symbol.TheVariants as s
use Rattle.syntax_places.specs.Pieces.{joined, separated, pieces, decl_pieces, pieced_decl, binding_pieces, pieced_binding, link_pieces, pieced_link, access_pieces, pieced_access, decls_pieces, bindings_pieces, links_pieces, steps_pieces}
use Rattle.syntax_places.specs.Walk.{walk, going_on}
use Rattle.syntax_places.proofs.expr.+placed.Given as goal

abbrev pub invariant-exprs-loop-item : goal.invariant-exprs-loop-item
invariant-exprs-loop-item l = walk l.walk (joined (map pieces (drop l.item-index l.items))) ≡ walk l.initial.walk (joined (map pieces l.items))

abbrev pub invariant-steps-loop-item : goal.invariant-steps-loop-item
invariant-steps-loop-item l =
    walk l.walk (going_on l.is_first s.Comma (map pieces (drop l.item-index l.items))) ≡ walk l.initial.walk (separated s.Comma (map pieces l.items))

abbrev pub invariant-decls-loop-one : goal.invariant-decls-loop-one
invariant-decls-loop-one l =
    walk l.walk (going_on l.is_first s.Comma (map (λ d. decl_pieces (pieced_decl d)) (drop l.one-index l.decls))) ≡ walk l.initial.walk (decls_pieces l.decls)

abbrev pub invariant-bindings-loop-one : goal.invariant-bindings-loop-one
invariant-bindings-loop-one l =
    walk l.walk (going_on l.is_first s.Comma (map (λ b. binding_pieces (pieced_binding b)) (drop l.one-index l.bindings))) ≡ walk l.initial.walk (bindings_pieces l.bindings)

abbrev pub invariant-links-loop-link : goal.invariant-links-loop-link
invariant-links-loop-link l =
    walk l.walk (joined (map (λ k. link_pieces (pieced_link k)) (drop l.link-index l.links))) ≡ walk l.initial.walk (links_pieces l.links)

abbrev pub invariant-steps-loop-one : goal.invariant-steps-loop-one
invariant-steps-loop-one l =
    walk l.walk (joined (map (λ a. access_pieces (pieced_access a)) (drop l.one-index l.steps))) ≡ walk l.initial.walk (steps_pieces l.steps)
