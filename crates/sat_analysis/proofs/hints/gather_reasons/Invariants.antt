use Rattle.std.proofs.Common.{◌≡◌, ◌++◌, drop}
use Rattle.sat_analysis.specs.Hints.{reasons_from}
use Rattle.sat_analysis.proofs.hints.gather_reasons.Given as goal

abbrev pub invariant-loop-place : goal.invariant-loop-place
invariant-loop-place l = l.hints.items ++ reasons_from l.trail l.start (drop l.place-index l.places) ≡ l.fn.hints.items ++ reasons_from l.trail 0 l.places
