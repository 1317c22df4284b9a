use Rattle.std.proofs.Common.{sym, ap, ◌∙◌}
use Rattle.std.proofs.lemmas.Bool.{OnTrue_at, OnFalse_at}
use Rattle.syntax_tree.specs.Spelling.{kinds}
use Rattle.syntax_expr.proofs.infix.implies.Goals as goal

pub returns-then-eat_word : goal.returns-then-eat_word
returns-then-eat_word c = OnTrue_at c.if-eat_word.true c.eat_word.ensures.found

pub returns : goal.returns
returns c = ap kinds (sym (OnFalse_at c.if-eat_word.false c.eat_word.ensures.kept)) ∙ c.in_ok-expect.ensures
