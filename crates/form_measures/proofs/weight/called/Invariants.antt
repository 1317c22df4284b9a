use Rattle.std.proofs.Common.{◌≡◌, max, take}
use Rattle.core_tree.specs.Past.{Depths}
use Rattle.form_measures.specs.Measured.{up_to}
use Rattle.form_measures.specs.Weights.{most_used, weight_at, arguments_at}
use Rattle.form_measures.proofs.weight.called.Given as goal

abbrev pub invariant-loop-used : goal.invariant-loop-used
invariant-loop-used l = (d : Depths) → weight_at d l.whole ≡ up_to (max l.body.own (most_used (arguments_at d l.arguments) (take l.used-index l.uses)))
