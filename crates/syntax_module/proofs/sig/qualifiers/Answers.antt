use Rattle.std.proofs.Common.{rules, arith}
use Rattle.syntax_tree.specs.Spelling.{kinds}
use Rattle.syntax_tree.specs.ModuleWords.{qualifier_words}
use Rattle.syntax_tree.proofs.Lists.{read_next}
use Rattle.syntax_module.proofs.Rules.{push_qualifier}
use Rattle.syntax_module.proofs.sig.qualifiers.Goals as goal

pub loop-turn-preserved : goal.loop-turn-preserved
loop-turn-preserved c = (
  read_next qualifier_words c.in-Some.next c.push.new.self (kinds c.args.cursor.now) (kinds c.qualifier_at.new.cursor) c.loop-turn.found (kinds c.loop-turn.cursor) (search rules) (search rules) (search rules),
  push_qualifier c.in-Some.next c.loop-turn.found c.push.new.self (search rules) (search rules) (grind arith),
)
