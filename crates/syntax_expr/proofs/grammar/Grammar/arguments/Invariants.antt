use Rattle.std.proofs.Common.{◌≡◌, ◌++◌, ◌<◌, map, length}
use Rattle.syntax_tree.specs.declared.token.Symbol.TheVariants as s
use Rattle.syntax_tree.specs.Spelling.{spelling, kinds, separated}
use Rattle.syntax_expr.proofs.grammar.Grammar.arguments.Given as goal

abbrev pub invariant-loop-turn : goal.invariant-loop-turn
invariant-loop-turn g l = (0 < length l.found) × (kinds l.fn.cursor ≡ separated s.Comma (map spelling l.found) ++ kinds l.cursor)
