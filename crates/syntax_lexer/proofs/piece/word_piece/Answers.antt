use Rattle.syntax_lexer.proofs.Numbers.{ascii_ahead}
use Rattle.syntax_lexer.proofs.piece.word_piece.Goals as goal

pub named-requires-clause-ascii : goal.named-requires-clause-ascii
named-requires-clause-ascii c = rw c.name_len-len.ensures.value (ascii_ahead c.args.z.now)
