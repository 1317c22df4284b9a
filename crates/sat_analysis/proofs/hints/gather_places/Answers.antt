use Rattle.std.proofs.Common.{ℕ, ◌≡◌, length, refl, subst, rules, arith, w64, SFits}
use Rattle.std.proofs.lemmas.Int.{to_z-of_z}
use Rattle.sat_trail.specs.Assignment.{value_at}
use Rattle.sat_analysis.specs.Hints.{IsPlaced}
use Rattle.sat_analysis.proofs.Taking.{placed_step}
use Rattle.sat_analysis.proofs.hints.gather_places.Goals as goal

pub loop-number-preserved : goal.loop-number-preserved
loop-number-preserved c =
    let literal_fits : SFits w64 (value_at c.args.literals.now c.loop-number.number) = search rules in
    let says = simp to_z-of_z at c.place.ensures in
    placed_step c.args.trail.now c.args.literals.now c.args.start c.loop-number.number (value_at c.args.literals.now c.loop-number.number) c.place.result c.args.places.now.items c.loop-number.places.items c.push.new.self.items
    c.loop-number.auto.number c.loop-number-test.true refl c.requires.fails says c.in_ok-push.ensures.items c.loop-number.invariant

pub returns : goal.returns
returns c =
    let last : c.loop-number.number ≡ length c.args.literals.now = omega (arith, c.loop-number-test.false, c.loop-number.auto.number-end, c.requires.within) in
    subst (λ (n : ℕ). IsPlaced c.args.trail.now c.args.literals.now c.args.start n c.args.places.now.items c.loop-number.places.items) last c.loop-number.invariant
