use Rattle.std.proofs.Common.{◌≡◌, ◌+◌, take}
use Rattle.std.specs.Prelude.{sum_by}
use Rattle.syntax_tree.specs.Instances.{names_in}
use Rattle.load_state.proofs.count.names_of.Given as goal

abbrev pub invariant-loop-paragraph : goal.invariant-loop-paragraph
invariant-loop-paragraph l = l.total ≡ sum_by (λ p. 1 + names_in p) (take l.paragraph-index l.paragraph-items)
