use Rattle.std.proofs.Common.{◌≡◌, length, ap, arith}
use Rattle.syntax_machine.proofs.Walked.{first_within}
use Rattle.syntax_machine.proofs.walk.left_behind.Goals as goal

pub add_over-requires : goal.add_over-requires
add_over-requires c = let long : length c.new-stacks.result ≡ 1 = ap length c.new-stacks.ensures in omega (arith, long)

pub loop-token-init : goal.loop-token-init
loop-token-init c = first_within c.new-stacks.result c.add_over.new.stacks c.new-tops.result c.add_over.new.tops _ c.new-tops.ensures c.in_ok-add_over.ensures

pub advance-requires : goal.advance-requires
advance-requires c = c.loop-token.invariant

pub loop-token-preserved : goal.loop-token-preserved
loop-token-preserved c = c.in_ok-next.ensures.within
