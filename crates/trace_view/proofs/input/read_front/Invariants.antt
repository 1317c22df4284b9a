use Rattle.std.proofs.Common.{◌-◌, vec_len}
use Rattle.trace_view.proofs.input.read_front.Given as goal

abbrev pub decreases-loop-chunk : goal.decreases-loop-chunk
decreases-loop-chunk g l = l.most - vec_len l.bytes
