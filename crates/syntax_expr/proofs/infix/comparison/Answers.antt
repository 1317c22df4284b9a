use Rattle.std.proofs.Common.{◌∷◌, ap, ◌∙◌}
use Rattle.syntax_tree.specs.Words.{negation_words, comparator_token, multiplicity_words}
use Rattle.syntax_tree.specs.Spelling.{kinds}
use Rattle.syntax_expr.proofs.Chains.{then_read}
use Rattle.syntax_expr.proofs.infix.comparison.Goals as goal

pub returns : goal.returns
returns c =
    let token = comparator_token c.in_ok-comparator.comparator in
    then_read (negation_words c.negation-negation.result) (token ∷ multiplicity_words c.word_after-word.result) (kinds c.word_after-word.new.cursor)
    c.negation-negation.ensures (c.in_ok-comparator.ensures ∙ ap (λ w. token ∷ w) c.word_after-word.ensures)
