use Rattle.std.proofs.Common.{◌≡◌}
use Rattle.form_target.specs.Children.{HasChildrenBelow}
use Rattle.form_target.proofs.children.child_lists.Given as goal

abbrev pub invariant-loop-sig : goal.invariant-loop-sig
invariant-loop-sig l = (l.number ≡ l.sig-index) × HasChildrenBelow l.sigs l.number l.lists.items
