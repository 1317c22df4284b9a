use Rattle.std.proofs.Common.{◌∷◌, sym, ap, ◌∙◌}
use Rattle.syntax_tree.specs.declared.token.Word.TheVariants as w
use Rattle.syntax_tree.specs.Words.{word}
use Rattle.syntax_tree.specs.Spelling.{kinds}
use Rattle.syntax_module.proofs.command.expected.Goals as goal

pub returns-then-not-eat_word : goal.returns-then-not-eat_word
returns-then-not-eat_word c = ap kinds (sym c.if-not-eat_word.ensures.kept)

pub returns : goal.returns
returns c = c.if-not-eat_word.ensures.found ∙ ap (λ v. word w.Expect ∷ v) c.in_ok-number.ensures
