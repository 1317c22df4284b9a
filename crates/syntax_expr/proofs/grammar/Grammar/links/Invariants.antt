use Rattle.std.proofs.Common.{◌≡◌, ◌++◌}
use Rattle.syntax_tree.specs.Spelling.{kinds, links_spelling}
use Rattle.syntax_expr.proofs.grammar.Grammar.links.Given as goal

abbrev pub invariant-loop-turn : goal.invariant-loop-turn
invariant-loop-turn g l = kinds l.fn.cursor ≡ links_spelling l.links ++ kinds l.cursor
