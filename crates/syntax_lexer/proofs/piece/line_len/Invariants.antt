use Rattle.std.proofs.Common.{◌≡◌, ◌+◌, ◌-◌, ◌≤◌, length, drop, not, ◌==◌}
use Rattle.std.specs.List.{prefix_len}
use Rattle.syntax_lexer.specs.Piece.{line_len}
use Rattle.syntax_lexer.proofs.piece.line_len.Given as goal

abbrev pub invariant-loop-end : goal.invariant-loop-end
invariant-loop-end l = (l.end + prefix_len (λ b. not (b == 10)) (drop l.end l.z) ≡ line_len l.z) × (2 ≤ l.end) × (l.end ≤ length l.z)

abbrev pub decreases-loop-end : goal.decreases-loop-end
decreases-loop-end l = length l.z - l.end
