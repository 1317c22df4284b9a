use Rattle.std.proofs.Common.{◌≡◌, map, take}
use Rattle.bound_uppers.specs.Table.{decoded_set}
use Rattle.bound_uppers.specs.Numbers.{HasFirsts}
use Rattle.bound_uppers.proofs.decoding.state_of.Given as goal

abbrev pub invariant-loop-relation : goal.invariant-loop-relation
invariant-loop-relation l = HasFirsts l.relations l.table l.state → l.sets ≡ map (decoded_set l.relations l.assignment l.state) (take l.relation l.relations)
