use Rattle.std.proofs.Common.{ℤ, List, ◌≤◌, sym, subst, take, length, arith, length-take}
use Rattle.sat_trail.specs.Assignment.{Assignment}
use Rattle.sat_trail.specs.Reasons.{AreApart}
use Rattle.sat_trail.proofs.Reasoning.{apart_by_places}
use Rattle.sat_trail.proofs.assigned.Assigned.trail.Goals as goal

pub returns-clause-apart : goal.returns-clause-apart
returns-clause-apart c = subst (λ (xs : List ℤ). AreApart (take c.self.inside.len xs)) (sym c.deref.ensures.value) (apart_by_places c.self.inside.trail.items c.self.inside.len c.self.inside.values.items c.self.inside.places.items c.self.invariant.0)

pub returns-clause-fits : goal.returns-clause-fits
returns-clause-fits c =
    let here : length (take c.self.inside.len c.deref.result.now) ≤ length c.self.inside.values.items = omega (arith, c.self.invariant.0.fits, length-take c.self.inside.len c.deref.result.now) in
    subst (λ (a : Assignment). length (take c.self.inside.len c.deref.result.now) ≤ length a.values) c.self.view_is here
