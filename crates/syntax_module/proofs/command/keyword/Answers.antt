use Rattle.std.proofs.Common.{sym, ap, ◌∙◌}
use Rattle.syntax_tree.specs.Spelling.{kinds}
use Rattle.syntax_module.proofs.command.keyword.Goals as goal

pub returns-then-eat_word : goal.returns-then-eat_word
returns-then-eat_word c = c.if-eat_word.ensures.found

pub returns : goal.returns
returns c = ap kinds (sym c.if-eat_word.ensures.kept) ∙ c.in_ok-expect_word.ensures
