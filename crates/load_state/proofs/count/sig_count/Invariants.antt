use Rattle.std.proofs.Common.{◌≡◌, take}
use Rattle.std.specs.Prelude.{sum_by}
use Rattle.syntax_tree.specs.Instances.{sigs_in}
use Rattle.load_state.proofs.count.sig_count.Given as goal

abbrev pub invariant-loop-paragraph : goal.invariant-loop-paragraph
invariant-loop-paragraph l = l.total ≡ sum_by sigs_in (take l.paragraph-index l.paragraph-items)
