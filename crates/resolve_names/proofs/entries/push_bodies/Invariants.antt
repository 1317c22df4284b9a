use Rattle.std.proofs.Common.{◌≡◌, ◌++◌, replicate}
use Rattle.resolve_names.proofs.entries.push_bodies.Given as goal

abbrev pub invariant-loop-body : goal.invariant-loop-body
invariant-loop-body l = l.all ≡ l.initial.all ++ replicate l._body l.entry
