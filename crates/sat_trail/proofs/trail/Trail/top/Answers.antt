use Rattle.std.proofs.Common.{ap, length, arith}
use Rattle.std.proofs.lemmas.List.{length-take-le}
use Rattle.sat_trail.specs.State.{Search}
use Rattle.sat_trail.proofs.trail.Trail.top.Goals as goal

pub returns : goal.returns
returns c =
    let s = c.self.invariant.sound in
    omega (arith, ap (λ (x : Search). length x.limits) c.self.view_is, length-take-le c.self.inside.top c.self.inside.lens.items (omega (arith, s.levels, s.room.0)))
