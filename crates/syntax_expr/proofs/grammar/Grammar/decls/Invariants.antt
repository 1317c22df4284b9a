use Rattle.std.proofs.Common.{◌≡◌, ◌++◌, ◌<◌, length}
use Rattle.syntax_tree.specs.Spelling.{kinds, decls_spelling}
use Rattle.syntax_expr.proofs.grammar.Grammar.decls.Given as goal

abbrev pub invariant-loop-turn : goal.invariant-loop-turn
invariant-loop-turn g l = (0 < length l.found) × (kinds l.fn.cursor ≡ decls_spelling l.found ++ kinds l.cursor)
