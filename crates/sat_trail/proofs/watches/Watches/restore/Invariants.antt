use Rattle.std.proofs.Common.{◌≡◌, length}
use Rattle.sat_trail.specs.Watched.{IsWoven}
use Rattle.sat_trail.proofs.watches.Watches.restore.Given as goal

abbrev pub invariant-nodes : goal.invariant-nodes
invariant-nodes l = record {
  woven : IsWoven l.arena.literals.items l.arena.ends.items l.self.at.items l.self.lists l.arena.variables;
  at : l.self.at.items ≡ l.initial.self.at.items;
  copies : l.self.copies.items ≡ l.initial.self.copies.items;
}

abbrev pub decreases-nodes : goal.decreases-nodes
decreases-nodes l = length l.self.lists.loose
