use Rattle.std.proofs.Common.{◌≡◌, take}
use Rattle.std.specs.Prelude.{sum_by}
use Rattle.bound_uppers.specs.Counts.{capped, field_count}
use Rattle.bound_uppers.proofs.counts.fields_size.Given as goal

abbrev pub invariant-loop-field : goal.invariant-loop-field
invariant-loop-field l = l.size ≡ capped (sum_by (field_count l.sigs l.scopes) (take l.field-index l.fields))
