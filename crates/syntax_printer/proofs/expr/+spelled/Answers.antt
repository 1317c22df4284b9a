use Rattle.std.proofs.Common.{rules}
use Rattle.std.proofs.lemmas.Result.{on_ok_weaker}
use Rattle.syntax_printer.proofs.Forms.{implication_whole}
use Rattle.syntax_printer.proofs.expr.+spelled.Goals as goal

pub expr-returns-in_ok-expr-in-Implication-2 : goal.expr-returns-in_ok-expr-in-Implication-2
expr-returns-in_ok-expr-in-Implication-2 t c =
    rw c.in-Implication.is (on_ok_weaker c.alternative.result
    (implication_whole c.in-Implication.is_word c.in-Implication.condition c.in-Implication.consequence c.in-Implication.other c.args.words.now.items c.expr-in-Implication.new.words.items
    c.put-in-Implication.new.words.items c.expr-in-Implication-2.new.words.items c.alternative.new.words.items (search rules) (search rules) (search rules))
    (search rules))
