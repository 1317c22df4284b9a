use Rattle.std.proofs.Common.{◌∷◌, ap, ◌∙◌}
use Rattle.syntax_tree.specs.Words.{word}
use Rattle.syntax_tree.specs.Spelling.{kinds}
use Rattle.syntax_expr.proofs.quantified.quantifier_at.Goals as goal

pub returns : goal.returns
returns c = c.advance.ensures ∙ ap (λ k. k ∷ kinds c.advance.new.self) (c.in-Some.ensures ∙ ap word c.in-Some-quantifier.ensures)
