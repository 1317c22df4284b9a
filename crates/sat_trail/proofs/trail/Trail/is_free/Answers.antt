use Rattle.std.proofs.Common.{◌≡◌, w64, SFits, true, false, sym, subst, neg_ℤ, ◌∙◌}
use Rattle.std.specs.List.{Contains}
use Rattle.std.proofs.lemmas.Int.{to_z-of_z}
use Rattle.sat_trail.specs.State.{Search}
use Rattle.sat_trail.proofs.trail.Trail.is_free.Goals as goal

pub returns : goal.returns
returns c = λ e.
    let literal_fits : SFits w64 c.args.literal = c.ranges.literal in
    let t = simp to_z-of_z at c.is_true.ensures in
    let f = simp to_z-of_z at c.is_false.ensures in
    let neither = c.are_neither.ensures e in (
      (λ h. let bad : false ≡ true = sym neither.0 ∙ t.1 (subst (λ (s : Search). Contains s.assignment.trail c.args.literal) (sym c.self.view_is) h) in cc),
      (λ h. let bad : false ≡ true = sym neither.1 ∙ f.1 (subst (λ (s : Search). Contains s.assignment.trail (neg_ℤ c.args.literal)) (sym c.self.view_is) h) in cc),
    )
