use Rattle.std.proofs.Common.{◌≡◌, max, take}
use Rattle.core_tree.specs.Past.{no_depths}
use Rattle.form_measures.specs.Weights.{most_used}
use Rattle.form_measures.proofs.bodies.own_of.Given as goal

abbrev pub invariant-loop-used : goal.invariant-loop-used
invariant-loop-used l = l.most ≡ max l.weight.own (most_used no_depths (take l.used-index l.uses))
