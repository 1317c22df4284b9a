use Rattle.std.proofs.Common.{◌≡◌, ◌++◌, ◌<◌, map, length}
use Rattle.syntax_tree.specs.Spelling.{separated, one_name, kinds}
use Rattle.syntax_expr.proofs.names.names.Given as goal

abbrev pub invariant-loop-turn : goal.invariant-loop-turn
invariant-loop-turn l = (0 < length l.found) × (kinds l.fn.cursor ≡ separated l.mark (map one_name l.found) ++ kinds l.cursor)
