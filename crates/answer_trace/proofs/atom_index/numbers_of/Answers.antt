use Rattle.std.proofs.Common.{rules, arith}
use Rattle.std.proofs.lemmas.Grind.{common_steps}
use Rattle.answer_trace.proofs.Found.{found_more}
use Rattle.answer_trace.proofs.atom_index.numbers_of.Goals as goal

pub loop-place-preserved : goal.loop-place-preserved
loop-place-preserved c = λ q. found_more _ _ q _ _ _ c.text_at.ensures (c.loop-place.invariant q) (c.in_ok-put.ensures q)
