use Rattle.std.proofs.Common.{◌≡◌, ◌+◌, ◌*◌, ◌++◌, drop, length}
use Rattle.resolve_names.specs.Gathered.{sigs_from, field_count}
use Rattle.resolve_names.proofs.declared.add_sigs.Given as goal

-- what was added, and the sigs that are left
abbrev pub invariant-loop-name : goal.invariant-loop-name
invariant-loop-name l = record {
  declared : l.declared ++ sigs_from l.instance l.sig l.field l.paragraph (drop l.name-index l.names) ≡ l.initial.declared ++ sigs_from l.instance l.fn.before.sigs l.fn.before.fields l.paragraph l.paragraph.names;
  next : l.field + length (drop l.name-index l.names) * field_count l.paragraph.fields ≡ l.fn.before.fields + length l.paragraph.names * field_count l.paragraph.fields;
}
