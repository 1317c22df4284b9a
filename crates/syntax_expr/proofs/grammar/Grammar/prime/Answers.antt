use Rattle.std.proofs.Common.{[], ◌∷◌, ◌++◌, ap, ◌∙◌}
use Rattle.syntax_tree.specs.declared.token.Symbol.TheVariants as s
use Rattle.syntax_tree.specs.Words.{symbol}
use Rattle.syntax_tree.specs.Spelling.{spelling, kinds}
use Rattle.syntax_tree.proofs.Spells.{spelling-Prime}
use Rattle.syntax_expr.proofs.Chains.{goes_on}
use Rattle.syntax_expr.proofs.grammar.Grammar.prime.Goals as goal

pub returns : goal.returns
returns g c = goes_on (spelling c.args.left.tree) (symbol s.Prime ∷ []) (kinds c.expect.new.self)
    (spelling-Prime c.in_ok-boxed.boxed ∙ ap (λ e. spelling e ++ symbol s.Prime ∷ []) c.in_ok-boxed.ensures)
    c.in_ok-expect.ensures
