use Rattle.std.proofs.Common.{◌≡◌, ◌+◌, ◌++◌, false, drop, length}
use Rattle.resolve_names.specs.Gathered.{named_from, sig_of}
use Rattle.resolve_names.proofs.declared.add_sig_names.Given as goal

-- what was added, and the names that are left
abbrev pub invariant-loop-name : goal.invariant-loop-name
invariant-loop-name l = record {
  declared : l.declared ++ named_from (sig_of l.instance) false l.number (drop l.name-index l.names) ≡ l.initial.declared ++ named_from (sig_of l.instance) false l.first l.names;
  next : l.number + length (drop l.name-index l.names) ≡ l.first + length l.names;
}
