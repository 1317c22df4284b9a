use Rattle.std.proofs.Common.{◌≡◌, ◌<◌, ◌≤◌, ◌-◌, ◌∙◌, sym, subst, length, get_or, arith}
use Rattle.std.proofs.lemmas.List.{get_or_default}
use Rattle.sat_trail.specs.State.{Search}
use Rattle.sat_trail.proofs.Reasoning.{last_of_front, last_of_none}
use Rattle.sat_trail.proofs.trail.Trail.base.Goals as goal

pub index-requires : goal.index-requires
index-requires c = let s = c.self.invariant.sound in omega (arith, s.room.0, s.levels, c.self.inside.lens.ok.0)

pub returns-then-top-eq0 : goal.returns-then-top-eq0
returns-then-top-eq0 c = subst (λ (x : Search). 0 ≡ get_or x.limits (length x.limits - 1) 0) c.self.view_is (sym (last_of_none c.self.inside.lens.items c.self.inside.top c.if-top-eq0.true))

pub returns : goal.returns
returns c =
    let s = c.self.invariant.sound in
    let top = c.self.inside.top in
    let lens = c.self.inside.lens.items in
    let some : 0 < top = omega (arith, c.if-top-eq0.false) in
    let within : top ≤ length lens = omega (arith, s.room.0, s.levels) in
    let here = c.index.ensures ∙ get_or_default lens (top - 1) c.index.result.now 0 (omega (arith, some, within)) in
    subst (λ (x : Search). c.index.result.now ≡ get_or x.limits (length x.limits - 1) 0) c.self.view_is (here ∙ sym (last_of_front lens top within some))
