use Rattle.std.proofs.Common.{◌≡◌}
use Rattle.resolve_told_sigs.proofs.Joined.{AreOwnBefore}
use Rattle.resolve_told_sigs.proofs.own.own_fields.Given as goal

abbrev pub invariant-loop-field : goal.invariant-loop-field
invariant-loop-field l = AreOwnBefore l.sigs l.fields l.instance l.sig l.lists l.field-index l.all × (l.number ≡ l.field-index)
