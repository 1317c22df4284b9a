use Rattle.std.proofs.Common.{◌≡◌, ◌++◌, map, take}
use Rattle.std.specs.List.{range_with_len}
use Rattle.core_tree.specs.declared.model.Field.{Field}
use Rattle.bound_uppers.specs.Order.{with_owner}
use Rattle.bound_uppers.proofs.order.all_standings.Given as goal

abbrev pub invariant-loop-sig : goal.invariant-loop-sig
invariant-loop-sig l = l.all.items ≡ range_with_len 0 l.sig

abbrev pub invariant-loop-field : goal.invariant-loop-field
invariant-loop-field l = l.all.items ≡ range_with_len 0 l.sigs ++ map (λ (f : Field). with_owner l.sigs f.owner) (take l.field-index l.fields)
