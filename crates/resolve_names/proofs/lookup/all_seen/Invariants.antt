use Rattle.std.proofs.Common.{◌≡◌, ◌++◌, drop}
use Rattle.resolve_names.specs.Lookup.{seen_from}
use Rattle.resolve_names.proofs.lookup.all_seen.Given as goal

abbrev pub invariant-loop-number : goal.invariant-loop-number
invariant-loop-number l =
    l.all.items ++ seen_from l.marks l.from l.name l.number (drop l.number l.scopes) ≡ seen_from l.marks l.from l.name 0 l.scopes
