use Rattle.std.proofs.Common.{rules}
use Rattle.syntax_tree.specs.Spelling.{kinds}
use Rattle.syntax_tree.specs.ModuleWords.{paragraph_words}
use Rattle.syntax_tree.specs.ModuleRules.{paragraph_right}
use Rattle.syntax_tree.proofs.Lists.{read_next}
use Rattle.syntax_module.proofs.Rules.{push_every}
use Rattle.syntax_module.proofs.paragraph.paragraphs.Goals as goal

pub loop-turn-preserved : goal.loop-turn-preserved
loop-turn-preserved c = (read_next paragraph_words c.in_ok-next.next c.push.new.self (kinds c.args.cursor.now) (kinds c.paragraph.new.cursor) c.loop-turn.found (kinds c.loop-turn.cursor) (search rules) (search rules) (search rules), push_every (paragraph_right c.args.limit) c.in_ok-next.next c.loop-turn.found c.push.new.self (search rules) (search rules) (search rules))
