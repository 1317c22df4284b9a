use Rattle.std.proofs.Common.{[], ◌∷◌, ◌++◌, ap, ◌∙◌}
use Rattle.syntax_tree.specs.declared.token.Symbol.TheVariants as s
use Rattle.syntax_tree.specs.Words.{symbol}
use Rattle.syntax_tree.specs.Spelling.{spelling, kinds, decls_spelling, body_words}
use Rattle.syntax_tree.proofs.Spells.{spelling-Comprehension}
use Rattle.syntax_expr.proofs.Chains.{tree_read, then_read}
use Rattle.syntax_expr.proofs.grammar.Grammar.comprehension.Goals as goal

pub returns : goal.returns
returns g c =
    let decls = c.in_ok-decls.decls in
    let body = c.in_ok-body.body in
    let close = symbol s.CloseBrace ∷ [] in
    let words = body_words body.has_bar (spelling body.tree) in
    tree_read (symbol s.OpenBrace ∷ (decls_spelling decls ++ (words ++ close))) (kinds c.expect-2.new.self)
    (ap spelling c.bracketed.ensures ∙ (spelling-Comprehension c.place-place.result decls body.has_bar c.in_ok-boxed.boxed
    ∙ ap (λ e. symbol s.OpenBrace ∷ (decls_spelling decls ++ (body_words body.has_bar (spelling e) ++ close))) c.in_ok-boxed.ensures))
    (c.in_ok-expect.ensures ∙ ap (λ w. symbol s.OpenBrace ∷ w)
    (then_read (decls_spelling decls) (words ++ close) (kinds c.expect-2.new.self) c.in_ok-decls.ensures
    (then_read words close (kinds c.expect-2.new.self) c.in_ok-body.ensures c.in_ok-expect-2.ensures)))
