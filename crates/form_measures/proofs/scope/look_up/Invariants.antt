use Rattle.std.proofs.Common.{◌≡◌, take}
use Rattle.core_tree.specs.Past.{Depths}
use Rattle.form_measures.specs.Weights.{weight_at, named}
use Rattle.form_measures.proofs.scope.look_up.Given as goal

abbrev pub invariant-loop-known : goal.invariant-loop-known
invariant-loop-known l = (d : Depths) → weight_at d l.found ≡ named d (take l.known-index l.names) l.name
