use Rattle.std.proofs.Common.{◌≡◌, ◌<◌, ◌^◌, take}
use Rattle.syntax_lexer.specs.Piece.{value}
use Rattle.syntax_lexer.proofs.piece.value.Given as goal

abbrev pub invariant-loop-digit : goal.invariant-loop-digit
invariant-loop-digit l = (l.value ≡ value (take l.digit-index l.digits)) × (l.value < 10 ^ l.digit-index)
