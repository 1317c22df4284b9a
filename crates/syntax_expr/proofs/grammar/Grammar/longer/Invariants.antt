use Rattle.std.proofs.Common.{◌≡◌, ◌++◌}
use Rattle.syntax_tree.specs.Spelling.{spelling, kinds}
use Rattle.syntax_expr.proofs.grammar.Grammar.longer.Given as goal

abbrev pub invariant-loop-turn : goal.invariant-loop-turn
invariant-loop-turn g l = spelling l.fn.left.tree ++ kinds l.fn.cursor ≡ spelling l.left.tree ++ kinds l.cursor
