use Rattle.std.proofs.Common.{◌∷◌, ◌++◌, ap, ◌∙◌}
use Rattle.syntax_tree.specs.declared.token.Symbol.TheVariants as s
use Rattle.syntax_tree.specs.Words.{symbol}
use Rattle.syntax_tree.specs.Spelling.{spelling, kinds}
use Rattle.syntax_tree.proofs.Spells.{spelling-Sequence}
use Rattle.syntax_expr.proofs.Chains.{goes_on}
use Rattle.syntax_expr.proofs.grammar.Grammar.sequence.Goals as goal

pub returns : goal.returns
returns g c = goes_on (spelling c.args.left.tree) (symbol s.Semicolon ∷ spelling c.in_ok-second.second.tree) (kinds c.operand.new.cursor)
    (spelling-Sequence c.in_ok-first.first c.in_ok-last.last
    ∙ (ap (λ e. spelling e ++ symbol s.Semicolon ∷ spelling c.in_ok-last.last) c.in_ok-first.ensures
    ∙ ap (λ e. spelling c.args.left.tree ++ symbol s.Semicolon ∷ spelling e) c.in_ok-last.ensures))
    (c.in_ok-expect.ensures ∙ ap (λ w. symbol s.Semicolon ∷ w) c.in_ok-second.ensures)
