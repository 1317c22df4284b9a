use Rattle.std.proofs.Common.{◌≡◌, ◌+◌, ◌++◌, drop, length}
use Rattle.resolve_names.specs.declared.table.Decl.TheVariants as thing
use Rattle.resolve_names.specs.Gathered.{named_from}
use Rattle.resolve_names.proofs.declared.add_group.Given as goal

-- what was added, and the names that are left
abbrev pub invariant-loop-name : goal.invariant-loop-name
invariant-loop-name l = record {
  declared : l.declared ++ named_from thing.Field l.is_private l.number (drop l.name-index l.names) ≡ l.initial.declared ++ named_from thing.Field l.is_private l.first l.names;
  next : l.number + length (drop l.name-index l.names) ≡ l.first + length l.names;
}
