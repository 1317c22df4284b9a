use Rattle.std.proofs.lemmas.List.Elements.{All-nil}
use Rattle.core_tuples.proofs.OrderedLemmas.{none_sorted}
use Rattle.gate_matrix.proofs.matrix.Matrix.empty.Goals as goal

pub invariant_of-result : goal.invariant_of-result
invariant_of-result c = rw c.new.ensures.items (record { least = c.requires.least; most = c.requires.most; columns = All-nil _; numbers = All-nil _; sorted = none_sorted })
