use Rattle.syntax_lexer.proofs.Numbers.{ascii_inside}
use Rattle.syntax_lexer.proofs.piece.literal.Goals as goal

pub copied-requires : goal.copied-requires
copied-requires c = rw c.inside_len-len.ensures.value (ascii_inside c.args.inside.now)
