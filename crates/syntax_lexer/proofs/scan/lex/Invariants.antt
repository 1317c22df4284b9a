use Rattle.std.proofs.Common.{◌≡◌, ◌+◌, ◌≤◌, length}
use Rattle.syntax_lexer.specs.Tokens.{tokens_of, tokens_after, with_front}
use Rattle.syntax_lexer.proofs.scan.lex.Given as goal

abbrev pub invariant-loop-rest : goal.invariant-loop-rest
invariant-loop-rest l = record {
  told : with_front l.found.items (tokens_after 0 l.place l.rest) ≡ tokens_of l.text l.bytes;
  line : l.place.line + length l.rest ≤ length l.bytes + 1;
  begins : 1 ≤ l.place.column;
  column : l.place.column + length l.rest ≤ length l.bytes + 1;
}

abbrev pub decreases-loop-rest : goal.decreases-loop-rest
decreases-loop-rest l = length l.rest
