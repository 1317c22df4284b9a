use Rattle.std.proofs.Common.{sym, ap, ◌∙◌}
use Rattle.std.proofs.lemmas.Bool.{OnTrue_at, OnFalse_at}
use Rattle.syntax_tree.specs.Spelling.{kinds}
use Rattle.syntax_expr.proofs.infix.negation.Goals as goal

pub returns-then-eat : goal.returns-then-eat
returns-then-eat c = OnTrue_at c.if-eat.true c.eat.ensures.found

pub returns-then-eat_word : goal.returns-then-eat_word
returns-then-eat_word c = ap kinds (sym (OnFalse_at c.if-eat.false c.eat.ensures.kept)) ∙ OnTrue_at c.if-eat_word.true c.eat_word.ensures.found

pub returns-else-eat_word : goal.returns-else-eat_word
returns-else-eat_word c =
    ap kinds (sym (OnFalse_at c.if-eat.false c.eat.ensures.kept)) ∙ ap kinds (sym (OnFalse_at c.if-eat_word.false c.eat_word.ensures.kept))
