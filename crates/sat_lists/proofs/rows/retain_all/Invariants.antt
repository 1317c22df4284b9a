use Rattle.std.proofs.Common.{◌≡◌, ◌++◌, map, filter, take, drop, length}
use Rattle.sat_lists.specs.Nodes.{rows, stays}
use Rattle.sat_lists.proofs.rows.retain_all.Given as goal

abbrev pub invariant-loop-list : goal.invariant-loop-list
invariant-loop-list l = record {
  size : length l.lists.items ≡ length l.initial.lists.items;
  done : rows l.lists.items ≡ map (filter (stays l.marks)) (take l.list (rows l.initial.lists.items)) ++ drop l.list (rows l.initial.lists.items);
}
