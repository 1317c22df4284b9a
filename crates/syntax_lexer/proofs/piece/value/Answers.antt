use Rattle.std.proofs.Common.{arith}
use Rattle.syntax_lexer.proofs.Numbers.{digits_fit}
use Rattle.syntax_lexer.proofs.piece.value.Goals as goal

pub overflow_mul-value : goal.overflow_mul-value
overflow_mul-value c =
    let h = digits_fit c.loop-digit.value c.loop-digit.digit-index c.loop-digit.invariant.1 (omega arith) in omega arith

pub overflow_add-value : goal.overflow_add-value
overflow_add-value c =
    let h = digits_fit c.loop-digit.value c.loop-digit.digit-index c.loop-digit.invariant.1 (omega arith) in omega arith
