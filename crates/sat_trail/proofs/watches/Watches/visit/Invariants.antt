use Rattle.std.proofs.Common.{◌≡◌, ℤ, neg_ℤ, length}
use Rattle.std.specs.List.{Contains}
use Rattle.sat_trail.specs.Watched.{IsWoven, IsCopied, IsKept, IsVisited}
use Rattle.sat_trail.specs.Reasons.{ForcesMore}
use Rattle.sat_trail.proofs.watches.Watches.visit.Given as goal

abbrev pub invariant-nodes : goal.invariant-nodes
invariant-nodes l = record {
  variables : length l.assigned.values ≡ length l.initial.assigned.values;
  woven : IsWoven l.arena.literals.items l.arena.ends.items l.self.at.items l.self.lists l.arena.variables;
  copied : IsCopied l.arena.literals.items l.arena.ends.items l.self.at.items l.self.copies.items;
  kept : IsKept l.arena.literals.items l.arena.ends.items l.initial.self.at.items l.initial.assigned.trail l.self.at.items l.assigned.trail;
  forced : ForcesMore l.arena.literals.items l.arena.ends.items l.level l.initial.assigned l.assigned;
  visited : (w : ℤ) → Contains l.initial.assigned.trail (neg_ℤ w) → IsVisited l.arena.literals.items l.arena.ends.items l.initial.self.at.items l.initial.self.lists.loose l.initial.assigned.trail w → IsVisited l.arena.literals.items l.arena.ends.items l.self.at.items l.self.lists.loose l.assigned.trail w;
}

abbrev pub decreases-nodes : goal.decreases-nodes
decreases-nodes l = length l.self.lists.loose
