use Rattle.eval_scopes.specs.Asked.{SigsKept}
use Rattle.eval_scopes.proofs.keep.sigs_keep.Given as goal

abbrev pub invariant-loop-place : goal.invariant-loop-place
invariant-loop-place l = SigsKept l.setting l.place
