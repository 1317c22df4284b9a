use Rattle.std.proofs.Common.{◌≡◌, take}
use Rattle.core_tree.specs.Past.{Depths}
use Rattle.form_measures.specs.Weights.{named}
use Rattle.form_measures.proofs.scope.copied.Given as goal

abbrev pub invariant-loop-name : goal.invariant-loop-name
invariant-loop-name l = (d : Depths) → named d l.all.items ≡ named d (take l.name-index l.names)
