use Rattle.std.proofs.Common.{◌++◌}
use Rattle.syntax_tree.specs.declared.token.Word.TheVariants as w
use Rattle.syntax_tree.specs.Words.{word}
use Rattle.syntax_tree.specs.Spelling.{kinds, optional}
use Rattle.syntax_tree.specs.ModuleWords.{numeral_words, target_words}
use Rattle.syntax_expr.proofs.Chains.{then_read}
use Rattle.syntax_module.proofs.Turns.{optional_read}
use Rattle.syntax_module.proofs.command.entry.Goals as goal

pub returns-clause-reads : goal.returns-clause-reads
returns-clause-reads c =
    let new = kinds c.target.new.cursor in
    then_read (optional c.eat_word-is_exact.result (word w.Exactly)) (numeral_words c.in_ok-number.number ++ target_words c.in_ok-target.target) new
    (optional_read c.eat_word-is_exact.result (word w.Exactly) c.args.cursor.now c.eat_word-is_exact.new.self c.eat_word-is_exact.ensures.found c.eat_word-is_exact.ensures.kept)
    (then_read (numeral_words c.in_ok-number.number) (target_words c.in_ok-target.target) new c.in_ok-number.ensures c.in_ok-target.ensures.reads)
