use Rattle.std.proofs.Common.{◌≡◌, ◌++◌, map, drop}
use Rattle.syntax_tree.specs.declared.token.Symbol.TheVariants as s
use Rattle.syntax_tree.specs.Spelling.{joined, separated, spelling, decl_words, spelled_decl, binding_words, spelled_binding, link_words, spelled_link, access_words, spelled_access}
use Rattle.syntax_printer.specs.Separated.{going_on}
use Rattle.syntax_printer.proofs.expr.+spelled.Given as goal

abbrev pub invariant-exprs-loop-item : goal.invariant-exprs-loop-item
invariant-exprs-loop-item l = l.words.items ++ joined (map spelling (drop l.item-index l.items)) ≡ l.initial.words.items ++ joined (map spelling l.items)

abbrev pub invariant-steps-loop-item : goal.invariant-steps-loop-item
invariant-steps-loop-item l =
    l.words.items ++ going_on l.is_first s.Comma (map spelling (drop l.item-index l.items)) ≡ l.initial.words.items ++ separated s.Comma (map spelling l.items)

abbrev pub invariant-decls-loop-one : goal.invariant-decls-loop-one
invariant-decls-loop-one l =
    l.words.items ++ going_on l.is_first s.Comma (map (λ d. decl_words (spelled_decl d)) (drop l.one-index l.decls))
    ≡ l.initial.words.items ++ separated s.Comma (map (λ d. decl_words (spelled_decl d)) l.decls)

abbrev pub invariant-bindings-loop-one : goal.invariant-bindings-loop-one
invariant-bindings-loop-one l =
    l.words.items ++ going_on l.is_first s.Comma (map (λ b. binding_words (spelled_binding b)) (drop l.one-index l.bindings))
    ≡ l.initial.words.items ++ separated s.Comma (map (λ b. binding_words (spelled_binding b)) l.bindings)

abbrev pub invariant-links-loop-link : goal.invariant-links-loop-link
invariant-links-loop-link l =
    l.words.items ++ joined (map (λ k. link_words (spelled_link k)) (drop l.link-index l.links)) ≡ l.initial.words.items ++ joined (map (λ k. link_words (spelled_link k)) l.links)

abbrev pub invariant-steps-loop-one : goal.invariant-steps-loop-one
invariant-steps-loop-one l =
    l.words.items ++ joined (map (λ a. access_words (spelled_access a)) (drop l.one-index l.steps)) ≡ l.initial.words.items ++ joined (map (λ a. access_words (spelled_access a)) l.steps)
