use Rattle.std.proofs.Common.{◌≡◌, drop}
use Rattle.resolve_rules.specs.Prepared.{times}
use Rattle.resolve_read.proofs.products.times.Given as goal

abbrev pub invariant-loop-place : goal.invariant-loop-place
invariant-loop-place l = times l.lines l.product (drop l.place l.names) l.columns ≡ times l.lines l.fn.before l.names l.columns
