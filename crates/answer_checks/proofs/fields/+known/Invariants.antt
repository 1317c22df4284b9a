use Rattle.std.proofs.Common.{map, take}
use Rattle.core_tree.specs.Trees.{claim_of, claim_list}
use Rattle.resolve_type_check.specs.Names.{names_of}
use Rattle.bound_laws.specs.Placed.{PlaceAll}
use Rattle.answer_checks.proofs.fields.+known.Given as goal

abbrev pub invariant-known_after_all-loop-formula : goal.invariant-known_after_all-loop-formula
invariant-known_after_all-loop-formula l = PlaceAll l.model (claim_list (map claim_of (take l.formula-index l.list))) (names_of l.names) l.known l.to
