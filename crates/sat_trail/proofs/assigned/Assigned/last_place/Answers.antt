use Rattle.std.proofs.Common.{◌∙◌, sym, neg_ℤ, w64, SFits}
use Rattle.std.proofs.lemmas.Int.{to_z-of_z}
use Rattle.sat_trail.proofs.Assigning.{place_step, index-neg, IsLiteral-neg}
use Rattle.sat_trail.proofs.assigned.Assigned.last_place.Goals as goal

pub returns : goal.returns
returns c =
    let literal_fits : SFits w64 c.args.literal = c.ranges.literal in
    let i = simp to_z-of_z at c.index.ensures.value in
    λ is_false. place_step _ _ _ _ _ _ _ (neg_ℤ c.args.literal) _ _ c.self.invariant.0 c.self.view_is (IsLiteral-neg _ c.args.literal c.requires) is_false (i ∙ sym (index-neg c.args.literal)) c.index-2.ensures
