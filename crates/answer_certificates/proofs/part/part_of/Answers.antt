use Rattle.std.proofs.Common.{ℕ, ◌<◌, map, subst}
use Rattle.core_tree.specs.Trees.{claim_of}
use Rattle.answer_certificates.specs.Parts.{stays}
use Rattle.answer_certificates.proofs.Staying.{stay_more}
use Rattle.answer_certificates.proofs.part.part_of.Goals as goal

pub loop-place-preserved : goal.loop-place-preserved
loop-place-preserved c =
    stay_more (stays c.args.first c.args.dropped.now) c.args.target.now.formulas (map claim_of c.loop-place.formulas) (map claim_of c.push_copy.new.formulas) c.loop-place.place c.get.result.now c.stays-stay.result c.stays-stay.ensures (subst (λ (n : ℕ). c.loop-place.place < n) c.len-place-end.ensures c.loop-place-test.true) c.get.ensures c.in_ok-push_copy.ensures c.loop-place.invariant
