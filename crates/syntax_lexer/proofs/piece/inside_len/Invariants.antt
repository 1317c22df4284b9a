use Rattle.std.proofs.Common.{◌≡◌, ◌+◌, ◌-◌, ◌≤◌, length, drop}
use Rattle.syntax_lexer.specs.Piece.{inside_len}
use Rattle.syntax_lexer.proofs.piece.inside_len.Given as goal

abbrev pub invariant-loop-end : goal.invariant-loop-end
invariant-loop-end l = (l.end + inside_len (drop l.end l.z) ≡ inside_len l.z) × (l.end ≤ length l.z)

abbrev pub decreases-loop-end : goal.decreases-loop-end
decreases-loop-end l = length l.z - l.end
