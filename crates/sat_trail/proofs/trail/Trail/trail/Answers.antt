use Rattle.std.proofs.Common.{subst}
use Rattle.sat_trail.specs.Reasons.{AreReasoned}
use Rattle.sat_trail.specs.State.{Search}
use Rattle.sat_trail.specs.Watched.{IsArena}
use Rattle.sat_trail.proofs.trail.Trail.trail.Goals as goal

pub returns-clause-reasoned : goal.returns-clause-reasoned
returns-clause-reasoned c = subst AreReasoned c.self.view_is c.self.invariant.reasoned

pub returns-clause-arena : goal.returns-clause-arena
returns-clause-arena c = subst (λ (x : Search). IsArena x.literals x.ends x.variables) c.self.view_is c.self.inside.arena.in_order
