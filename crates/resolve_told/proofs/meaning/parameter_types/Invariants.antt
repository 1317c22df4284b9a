use Rattle.std.proofs.Common.{◌≡◌, take}
use Rattle.resolve_told.proofs.meaning.parameter_types.Given as goal

abbrev pub invariant-loop-columns : goal.invariant-loop-columns
invariant-loop-columns l = l.all ≡ take l.columns-index l.first
