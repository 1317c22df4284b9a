use Rattle.std.proofs.Common.{◌≡◌, ◌-◌, ◌≤◌, length}
use Rattle.sat_lists.specs.Nodes.{AreAtRest}
use Rattle.sat_trail.specs.Watched.{IsWoven, IsCopied, IsKept, IsWatched}
use Rattle.sat_trail.specs.Reasons.{ForcesMore}
use Rattle.sat_trail.proofs.propagate.advance.Given as goal

abbrev pub invariant-trail : goal.invariant-trail
invariant-trail l = record {
  variables : length l.assigned.values ≡ length l.initial.assigned.values;
  woven : IsWoven l.arena.literals.items l.arena.ends.items l.watches.at.items l.watches.lists l.arena.variables;
  copied : IsCopied l.arena.literals.items l.arena.ends.items l.watches.at.items l.watches.copies.items;
  at_rest : AreAtRest l.watches.lists;
  kept : IsKept l.arena.literals.items l.arena.ends.items l.initial.watches.at.items l.initial.assigned.trail l.watches.at.items l.assigned.trail;
  forced : ForcesMore l.arena.literals.items l.arena.ends.items l.level l.initial.assigned l.assigned;
  reached : l.done ≤ length l.assigned.trail;
  watched : IsWatched l.arena.literals.items l.arena.ends.items l.watches.at.items l.assigned.trail (length l.assigned.trail) l.done;
}

abbrev pub decreases-trail : goal.decreases-trail
decreases-trail l = length l.initial.assigned.values - l.done
