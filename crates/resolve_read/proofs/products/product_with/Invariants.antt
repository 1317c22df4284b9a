use Rattle.std.proofs.Common.{◌≡◌, drop}
use Rattle.resolve_read.specs.Reads.{product_with}
use Rattle.resolve_read.proofs.products.product_with.Given as goal

abbrev pub invariant-loop-place : goal.invariant-loop-place
invariant-loop-place l = product_with l.lines l.product (drop l.place l.decls) (drop l.place l.types) ≡ product_with l.lines l.fn.before l.decls l.types
