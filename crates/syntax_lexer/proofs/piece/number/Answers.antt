use Rattle.syntax_lexer.proofs.Numbers.{digits_ahead}
use Rattle.syntax_lexer.proofs.piece.number.Goals as goal

pub value-requires-clause-all : goal.value-requires-clause-all
value-requires-clause-all c = rw c.digits_len-len.ensures.value (digits_ahead c.args.z.now)
