use Rattle.std.proofs.Common.{◌≡◌, take}
use Rattle.core_meaning.proofs.lasso.set_copies.Given as goal

abbrev pub invariant-loop-set : goal.invariant-loop-set
invariant-loop-set l = l.all.items ≡ take l.set-index l.sets
