use Rattle.std.proofs.Common.{◌≡◌, false, All, Some, slice_get, take}
use Rattle.resolve_names.proofs.reach.free_open.Given as goal

abbrev pub invariant-loop-open : goal.invariant-loop-open
invariant-loop-open l = All (λ o. o.is_private ≡ false → slice_get l.marks o.instance ≡ Some false → ⊥) (take l.open-index l.opens)
