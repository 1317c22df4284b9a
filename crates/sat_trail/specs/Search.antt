-- What contracts see of a trail, and what a trail keeps of its watches, levels and reasons.
use Rattle.std.specs.Prelude.{◌≡◌, length, take}
use Rattle.sat_trail.specs.declared.trail.Trail.TheInside.{Inside}
use Rattle.sat_trail.specs.Sound.{Net, IsSound}
use Rattle.sat_trail.specs.State.{Search}
use Rattle.sat_trail.specs.Watched.{IsCopied}
use Rattle.sat_trail.specs.Reasons.{AreReasoned}

-- the clauses, watches and levels of a trail
abbrev pub net : Inside → Net
net t = record {
  literals = t.arena.literals.items;
  ends = t.arena.ends.items;
  attached = t.attached.items;
  at = t.watches.at.items;
  short = t.short.items;
  lists = t.watches.lists;
  trail = t.assigned.trail;
  variables = t.arena.variables;
  lens = t.lens.items;
  dones = t.dones.items;
  short_dones = t.short_dones.items;
  top = t.top;
  done = t.done;
  short_done = t.short_done;
}

-- what a contract sees of a trail
abbrev pub search_of : Inside → Search
search_of t = record {
  literals = t.arena.literals.items;
  ends = t.arena.ends.items;
  attached = t.attached.items;
  variables = t.arena.variables;
  assignment = t.assigned;
  limits = take t.top t.lens.items;
}

-- a trail keeps its watches, levels and reasons in order
pub record IsTrail (t : Inside) : Type 0 where
  pub variables : length t.assigned.values ≡ t.arena.variables
  pub sound : IsSound (net t)
  pub copied : IsCopied t.arena.literals.items t.arena.ends.items t.watches.at.items t.watches.copies.items
  pub reasoned : AreReasoned (search_of t)
