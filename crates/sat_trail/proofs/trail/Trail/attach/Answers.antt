use Rattle.std.proofs.Common.{true, ◌≡◌, ◌-◌, ap, subst, set, length, arith}
use Rattle.sat_trail.specs.State.{Search}
use Rattle.sat_trail.proofs.Attaching.{attached_same}
use Rattle.sat_trail.proofs.trail.Trail.attach.Goals as goal

pub index-requires : goal.index-requires
index-requires c =
    let ends = ap (λ (x : Search). length x.ends) c.self.view_is in
    omega (arith, c.requires.number.0, c.requires.number.1, ends, c.self.invariant.sound.marked, c.self.inside.attached.ok.0)

pub returns-then-index-clause-attached : goal.returns-then-index-clause-attached
returns-then-index-clause-attached c =
    subst (λ (x : Search). x.attached ≡ set x.attached (c.args.number - 1) true) c.self.view_is
    (attached_same c.self.inside.attached.items (c.args.number - 1) c.index.result.now c.index.ensures c.if-index.true)
