use Rattle.std.proofs.Common.{rules}
use Rattle.syntax_tree.specs.declared.token.Symbol.TheVariants as s
use Rattle.syntax_tree.specs.Spelling.{kinds, spelling}
use Rattle.syntax_tree.proofs.Lists.{read_first, read_more}
use Rattle.syntax_expr.proofs.grammar.Grammar.arguments.Goals as goal

pub loop-turn-init : goal.loop-turn-init
loop-turn-init g c = read_first s.Comma spelling c.in_ok-first.first.tree _ _ _ (search rules) (search rules)

pub loop-turn-preserved : goal.loop-turn-preserved
loop-turn-preserved g c =
    read_more s.Comma spelling c.in_ok-next.next.tree _ _ _ c.loop-turn.found (kinds c.loop-turn.cursor) (kinds c.eat.new.self) (search rules) (search rules) (search rules) (search rules) (search rules)
