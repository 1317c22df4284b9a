use Rattle.std.proofs.Common.{rules}
use Rattle.syntax_tree.specs.Spelling.{kinds}
use Rattle.syntax_tree.specs.ModuleWords.{field_word_words}
use Rattle.syntax_tree.proofs.Lists.{read_next}
use Rattle.syntax_module.proofs.sig.field_words_at.Goals as goal

pub loop-turn-preserved : goal.loop-turn-preserved
loop-turn-preserved c = read_next field_word_words c.in-Some.next c.push.new.self (kinds c.args.cursor.now) (kinds c.field_word_at.new.cursor) c.loop-turn.found (kinds c.loop-turn.cursor) (search rules) (search rules) (search rules)
