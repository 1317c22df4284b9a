use Rattle.std.proofs.Common.{length}
use Rattle.base_host.proofs.stdout.writes_whole.Given as goal

abbrev pub decreases-loop-rest : goal.decreases-loop-rest
decreases-loop-rest g l = length l.rest
