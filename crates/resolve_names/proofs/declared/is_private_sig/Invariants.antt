use Rattle.std.proofs.Common.{◌≡◌, false, take}
use Rattle.std.specs.List.{list_any}
use Rattle.resolve_names.specs.Gathered.{is_private_qualifier}
use Rattle.resolve_names.proofs.declared.is_private_sig.Given as goal

abbrev pub invariant-loop-qualifier : goal.invariant-loop-qualifier
invariant-loop-qualifier l = list_any is_private_qualifier (take l.qualifier-index l.qualifiers) ≡ false
