use Rattle.load_modules.specs.Numbered.{labels_before}
use Rattle.load_modules.proofs.Walking.{AreTaken}
use Rattle.load_modules.proofs.order.has_counted.Given as goal

abbrev pub invariant-loop-count : goal.invariant-loop-count
invariant-loop-count l = AreTaken (labels_before l.instances l.number) l.way l.count
