use Rattle.std.proofs.Common.{◌<◌, ℕ}
use Rattle.eval_trace.specs.Asked.{AllAre}
use Rattle.eval_trace.proofs.declarations.first_failing.Given as goal

abbrev pub invariant-loop-position : goal.invariant-loop-position
invariant-loop-position l = (i : ℕ) → i < l.position → AllAre l.judge i
