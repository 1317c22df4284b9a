use Rattle.std.proofs.Common.{sym, subst, take}
use Rattle.sat_trail.specs.Assignment.{Assignment, IsTold}
use Rattle.sat_trail.proofs.Reasoning.{told_by_places}
use Rattle.sat_trail.proofs.assigned.Assigned.values.Goals as goal

pub returns-clause-told : goal.returns-clause-told
returns-clause-told c =
    let told = told_by_places c.self.inside.trail.items c.self.inside.len c.self.inside.values.items c.self.inside.places.items c.self.invariant.0 in
    let here = subst (IsTold (take c.self.inside.len c.self.inside.trail.items)) (sym c.as_slice.ensures.value) told in
    subst (λ (a : Assignment). IsTold a.trail c.as_slice.result.now) c.self.view_is here
