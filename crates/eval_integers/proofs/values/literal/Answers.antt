use Rattle.std.proofs.Common.{rules, ◌≡◌, ◌∙◌, ◌+ℤ◌, ◌^◌, ◌-◌, ℤ, ap, refl, w64, SFits}
use Rattle.std.proofs.lemmas.Int.{to_z-of_z}
use Rattle.core_meaning.specs.Integers.{low_bits}
use Rattle.eval_context.specs.Settings.{world}
use Rattle.eval_integers.proofs.NumberLaw.{literal_is}
use Rattle.eval_integers.proofs.values.literal.Goals as goal

pub returns : goal.returns
returns c =
    let fn : SFits w64 c.args.number = c.ranges.number in
    let fh : SFits w64 c.half_of-half.result = search rules in
    let fa : SFits w64 c.in_ok-above.above = search rules in
    let above : c.in_ok-above.above ≡ c.args.number +ℤ c.half_of-half.result = simp to_z-of_z at c.in_ok-above.ensures in
    let low : c.low_bits-low.result ≡ low_bits c.bits-bits.result c.in_ok-above.above = simp to_z-of_z at c.low_bits-low.ensures.number in
    literal_is (world c.args.setting.now) c.args.number c.in_ok-above.above c.bits-bits.result c.atoms-first.result (2 ^ (c.bits-bits.result - 1)) c.low_bits-low.result c.in_ok-set.set c.bits-bits.ensures.number c.atoms-first.ensures.number refl (above ∙ ap (λ (z : ℤ). c.args.number +ℤ z) c.half_of-half.ensures) low c.in_ok-set.ensures
