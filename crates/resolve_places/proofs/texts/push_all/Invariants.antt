use Rattle.std.proofs.Common.{◌≡◌, ◌++◌, replicate}
use Rattle.resolve_places.proofs.texts.push_all.Given as goal

abbrev pub invariant-loop-origin : goal.invariant-loop-origin
invariant-loop-origin l = l.all ≡ l.initial.all ++ replicate l._origin l.origin
