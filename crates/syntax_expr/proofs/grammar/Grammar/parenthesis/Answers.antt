use Rattle.std.proofs.Common.{[], ◌∷◌, ◌++◌, ap, ◌∙◌}
use Rattle.syntax_tree.specs.declared.token.Symbol.TheVariants as s
use Rattle.syntax_tree.specs.Words.{symbol}
use Rattle.syntax_tree.specs.Spelling.{spelling, kinds}
use Rattle.syntax_tree.proofs.Spells.{spelling-Parenthesis}
use Rattle.syntax_expr.proofs.Chains.{tree_read, then_read}
use Rattle.syntax_expr.proofs.grammar.Grammar.parenthesis.Goals as goal

pub returns : goal.returns
returns g c = tree_read (symbol s.OpenParenthesis ∷ (spelling c.in_ok-inner.inner.tree ++ symbol s.CloseParenthesis ∷ [])) (kinds c.expect-2.new.self)
    (ap spelling c.bracketed.ensures ∙ (spelling-Parenthesis c.place-place.result c.in_ok-boxed.boxed
    ∙ ap (λ e. symbol s.OpenParenthesis ∷ (spelling e ++ symbol s.CloseParenthesis ∷ [])) c.in_ok-boxed.ensures))
    (c.in_ok-expect.ensures ∙ ap (λ w. symbol s.OpenParenthesis ∷ w)
    (then_read (spelling c.in_ok-inner.inner.tree) (symbol s.CloseParenthesis ∷ []) (kinds c.expect-2.new.self) c.in_ok-inner.ensures c.in_ok-expect-2.ensures))
