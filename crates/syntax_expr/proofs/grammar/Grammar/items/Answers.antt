use Rattle.std.proofs.Common.{rules, arith, append_assoc}
use Rattle.syntax_tree.specs.Spelling.{kinds, spelling}
use Rattle.syntax_tree.proofs.Lists.{read_next}
use Rattle.syntax_expr.proofs.grammar.Grammar.items.Goals as goal

pub loop-turn-preserved : goal.loop-turn-preserved
loop-turn-preserved g c = read_next spelling c.in_ok-item.item.tree c.push.new.self (kinds c.args.cursor.now) (kinds c.whole.new.cursor) c.loop-turn.found (kinds c.loop-turn.cursor) (search rules) (search rules) (search rules)

pub returns-then-eat : goal.returns-then-eat
returns-then-eat g c = grind (arith, append_assoc)
