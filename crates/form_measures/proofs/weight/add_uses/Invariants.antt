use Rattle.std.proofs.Common.{◌≡◌, max, take}
use Rattle.core_tree.specs.Past.{Depths}
use Rattle.form_measures.specs.Measured.{raised}
use Rattle.form_measures.specs.Weights.{most_used}
use Rattle.form_measures.proofs.weight.add_uses.Given as goal

abbrev pub invariant-loop-used : goal.invariant-loop-used
invariant-loop-used l = (d : Depths) → max (raised l.by 0) (most_used d l.uses.items) ≡ max (most_used d l.initial.uses.items) (raised l.by (most_used d (take l.used-index l.more)))
