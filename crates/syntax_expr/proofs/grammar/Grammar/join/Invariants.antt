use Rattle.std.proofs.Common.{◌≡◌, ◌++◌}
use Rattle.syntax_tree.specs.Spelling.{kinds, accesses_spelling}
use Rattle.syntax_expr.proofs.grammar.Grammar.join.Given as goal

abbrev pub invariant-loop-turn : goal.invariant-loop-turn
invariant-loop-turn g l = kinds l.fn.cursor ≡ accesses_spelling l.steps ++ kinds l.cursor
