use Rattle.std.proofs.Common.{◌≡◌, List, [], length, All}
use Rattle.core_tree.specs.declared.model.Column.{Column}
use Rattle.form_target.proofs.children.no_children.Given as goal

abbrev pub invariant-loop-sig : goal.invariant-loop-sig
invariant-loop-sig l = (length l.lists.items ≡ l._sig-index) × All (λ (k : List Column). k ≡ []) l.lists.items
