use Rattle.std.proofs.Common.{◌∙◌, pos, neg_ℤ, w64, SFits}
use Rattle.std.proofs.lemmas.List.{get_or_default}
use Rattle.std.proofs.lemmas.Bool.{false≢true}
use Rattle.std.proofs.lemmas.Int.{to_z-of_z}
use Rattle.sat_trail.proofs.add.bound.Goals as goal

pub returns : goal.returns
returns c =
    let literal_fits : SFits w64 c.args.literal = c.ranges.literal in
    let told = simp to_z-of_z at c.if-is_false.ensures in
    λ j l _ e. false≢true (told.1 (j, l, get_or_default c.args.assigned.now.trail j (neg_ℤ c.args.literal) (pos 0) l ∙ e))
