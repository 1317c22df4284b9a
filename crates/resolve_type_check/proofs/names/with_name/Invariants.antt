use Rattle.std.proofs.Common.{◌≡◌, ◌∷◌, take}
use Rattle.resolve_type_check.proofs.names.with_name.Given as goal

abbrev pub invariant-loop-named : goal.invariant-loop-named
invariant-loop-named l = l.all ≡ record { name = l.name; rows = l.rows } ∷ take l.named-index l.names
