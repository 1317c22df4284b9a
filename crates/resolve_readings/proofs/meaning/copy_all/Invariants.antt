use Rattle.std.proofs.Common.{◌≡◌, take}
use Rattle.resolve_readings.proofs.meaning.copy_all.Given as goal

abbrev pub invariant-loop-columns : goal.invariant-loop-columns
invariant-loop-columns l = l.copies ≡ take l.columns-index l.all
