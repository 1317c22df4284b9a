use Rattle.std.proofs.Common.{◌≡◌, ℕ, ◌<◌, false, Some, slice_get}
use Rattle.resolve_names.specs.declared.table.Link.{Link}
use Rattle.resolve_names.specs.Visible.{HasOpen}
use Rattle.resolve_names.specs.Marks.{IsMarked}
use Rattle.resolve_names.proofs.reach.next.Given as goal

abbrev pub invariant-loop-number : goal.invariant-loop-number
invariant-loop-number l = (j : ℕ) (o : Link) → j < l.number → HasOpen l.scopes j o → IsMarked l.marks j → o.is_private ≡ false → slice_get l.marks o.instance ≡ Some false → ⊥
