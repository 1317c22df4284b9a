use Rattle.std.proofs.Common.{arith, refl}
use Rattle.syntax_lexer.specs.Tokens.{tokens_of}
use Rattle.syntax_lexer.proofs.Steps.{with_front-nil, EndsWell-push}
use Rattle.syntax_lexer.proofs.scan.lex.Goals as goal

pub loop-rest-init : goal.loop-rest-init
unfolding tokens_of
loop-rest-init c = record {
  told = rw c.new-found.ensures.items (with_front-nil (tokens_of c.args.text c.args.bytes.now));
  line = omega arith;
  begins = omega arith;
  column = omega arith;
}

pub returns-clause-ends : goal.returns-clause-ends
returns-clause-ends c = rw c.in_ok-push.ensures.items (EndsWell-push c.loop-rest.found.items _ refl)
