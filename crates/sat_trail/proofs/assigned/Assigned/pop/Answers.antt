use Rattle.std.proofs.Common.{◌≡◌, ◌∙◌, ◌-◌, ◌<◌, ap, sym, length, pos, arith, rules, w64, SFits, length-set}
use Rattle.std.proofs.lemmas.Int.{to_z-of_z}
use Rattle.std.proofs.lemmas.List.{get_or_default, length-take}
use Rattle.sat_trail.specs.Literal.{index}
use Rattle.sat_trail.specs.Assignment.{Assignment, value_at}
use Rattle.sat_trail.proofs.Assigning.{IsAssigned-pop}
use Rattle.sat_trail.proofs.assigned.Assigned.pop.Goals as goal

pub invariant_of-self : goal.invariant_of-self
invariant_of-self c =
    let literal_fits : SFits w64 c.index.result.now = search rules in
    let at = simp to_z-of_z at c.index-at.ensures.value in
    let len = ap (λ (v : Assignment). length v.trail) c.self.view_is in
    let some : 0 < c.self.inside.len = omega (arith, len, c.requires, length-take c.self.inside.len c.self.inside.trail.items) in
    let a = c.self.invariant.0 in
    let last = c.index.ensures ∙ get_or_default c.self.inside.trail.items (c.self.inside.len - 1) c.index.result.now (pos 0) (omega (arith, a.fits, a.same_trail)) in
    let there : c.index-at.result ≡ index (value_at c.self.inside.trail.items (c.self.inside.len - 1)) = at ∙ ap index last in
    rw there (IsAssigned-pop _ _ _ _ a some, c.self.invariant.1 ∙ sym (length-set _ _ _), c.self.invariant.2 ∙ sym (length-set _ _ _))
