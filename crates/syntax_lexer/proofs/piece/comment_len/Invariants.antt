use Rattle.std.proofs.Common.{◌≡◌, drop}
use Rattle.syntax_lexer.specs.Piece.{comment_len, closing}
use Rattle.syntax_lexer.proofs.piece.comment_len.Given as goal

abbrev pub invariant-loop-at : goal.invariant-loop-at
invariant-loop-at l = closing l.at (drop l.at l.z) ≡ comment_len l.z
