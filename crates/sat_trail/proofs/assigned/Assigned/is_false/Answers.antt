use Rattle.std.proofs.Common.{◌∙◌, sym, neg_ℤ, rules, w8, w64, SFits}
use Rattle.std.proofs.lemmas.Int.{to_z-of_z}
use Rattle.sat_trail.proofs.Assigning.{truth_step, index-neg, IsLiteral-neg}
use Rattle.sat_trail.proofs.assigned.Assigned.is_false.Goals as goal

pub returns : goal.returns
returns c =
    let literal_fits : SFits w64 c.args.literal = c.ranges.literal in
    let value_fits : SFits w8 c.index-2.result.now = search rules in
    let sign_fits : SFits w8 c.opposite_sign.result = search rules in
    let a = simp to_z-of_z at c.are_same.ensures in
    let i = simp to_z-of_z at c.index.ensures.value in
    let s = simp to_z-of_z at c.opposite_sign.ensures in
    let step = truth_step _ _ _ _ _ _ _ (neg_ℤ c.args.literal) _ _ _ c.self.invariant.0 c.self.view_is (IsLiteral-neg _ c.args.literal c.requires) (i ∙ sym (index-neg c.args.literal)) c.index-2.ensures s in
    ((λ t. step.0 (a.0 t)), (λ w. a.1 (step.1 w)))
