use Rattle.std.proofs.Common.{◌≡◌, take}
use Rattle.std.specs.List.{list_all}
use Rattle.syntax_tree.specs.Instances.{is_closed}
use Rattle.load_state.proofs.check.are_closed.Given as goal

abbrev pub invariant-loop-instance : goal.invariant-loop-instance
invariant-loop-instance l = l.all ≡ list_all (is_closed l.texts l.instances) (take l.instance-index l.instances)
