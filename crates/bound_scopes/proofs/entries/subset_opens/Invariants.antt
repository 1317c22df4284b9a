use Rattle.std.proofs.Common.{◌≡◌, take}
use Rattle.core_tree.specs.declared.model.Sig.{Sig}
use Rattle.bound_definitions.specs.Places.{first_from, each}
use Rattle.bound_definitions.specs.Rules.{is_subset, open_of}
use Rattle.bound_scopes.proofs.entries.subset_opens.Given as goal

abbrev pub invariant-loop-sig : goal.invariant-loop-sig
invariant-loop-sig l = l.first ≡ first_from l.fn.found (each (open_of (λ (d : Sig). is_subset d.kind)) (take l.sig-index l.sigs))
