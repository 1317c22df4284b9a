use Rattle.std.proofs.Common.{◌≡◌, map, take}
use Rattle.core_tree.specs.Trees.{variable_of, variable_list}
use Rattle.resolve_check.specs.Names.{names_of}
use Rattle.resolve_check.specs.Fits.{names_after}
use Rattle.resolve_check.proofs.names.names_under.Given as goal

abbrev pub invariant-loop-variable : goal.invariant-loop-variable
invariant-loop-variable l = names_of l.all ≡ names_after (variable_list (map variable_of (take l.variable-index l.list))) (names_of l.names)
