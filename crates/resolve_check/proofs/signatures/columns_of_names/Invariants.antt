use Rattle.std.proofs.Common.{◌≡◌, map, take}
use Rattle.resolve_check.specs.declared.names.Named.{Named}
use Rattle.resolve_check.proofs.signatures.columns_of_names.Given as goal

abbrev pub invariant-loop-named : goal.invariant-loop-named
invariant-loop-named l = l.all ≡ map (λ (n : Named). n.columns) (take l.named-index l.list)
