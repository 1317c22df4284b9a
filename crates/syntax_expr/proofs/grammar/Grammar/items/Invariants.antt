use Rattle.std.proofs.Common.{◌≡◌, ◌++◌, map}
use Rattle.syntax_tree.specs.Spelling.{spelling, kinds, joined}
use Rattle.syntax_expr.proofs.grammar.Grammar.items.Given as goal

abbrev pub invariant-loop-turn : goal.invariant-loop-turn
invariant-loop-turn g l = kinds l.fn.cursor ≡ joined (map spelling l.found) ++ kinds l.cursor
