use Rattle.std.proofs.Common.{◌≡◌, ◌+◌, ◌≤◌, drop}
use Rattle.syntax_lexer.specs.Tokens.{moved}
use Rattle.syntax_lexer.proofs.scan.moved.Given as goal

abbrev pub invariant-loop-b : goal.invariant-loop-b
invariant-loop-b l = record {
  value : moved l.place (drop l.b-index l.bytes) ≡ moved l.fn.at l.bytes;
  line : l.place.line ≤ l.fn.at.line + l.b-index;
  begins : 1 ≤ l.place.column;
  column : l.place.column ≤ l.fn.at.column + l.b-index;
}
