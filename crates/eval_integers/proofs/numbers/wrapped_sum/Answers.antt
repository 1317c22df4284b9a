use Rattle.std.proofs.Common.{rules, ◌≡◌, ◌∙◌, ◌+ℤ◌, refl, w64, SFits}
use Rattle.std.proofs.lemmas.Int.{to_z-of_z}
use Rattle.core_meaning.specs.Integers.{wrap}
use Rattle.eval_integers.proofs.BitLaw.{sums_wrap}
use Rattle.eval_integers.proofs.numbers.wrapped_sum.Goals as goal

pub returns-clause-number : goal.returns-clause-number
returns-clause-number c =
    let fx : SFits w64 c.args.x = c.ranges.x in
    let fy : SFits w64 c.args.y = c.ranges.y in
    let first : c.wrap-first.result ≡ wrap c.args.bits c.args.x = simp to_z-of_z at c.wrap-first.ensures.number in
    let second : c.wrap-second.result ≡ wrap c.args.bits c.args.y = simp to_z-of_z at c.wrap-second.ensures.number in
    let fa : SFits w64 c.wrap-first.result = search rules in
    let fb : SFits w64 c.wrap-second.result = search rules in
    let fs : SFits w64 (c.wrap-first.result +ℤ c.wrap-second.result) = search rules in
    let fr : SFits w64 c.wrap.result = search rules in
    let last : c.wrap.result ≡ wrap c.args.bits (c.wrap-first.result +ℤ c.wrap-second.result) = simp to_z-of_z at c.wrap.ensures.number in
    to_z-of_z w64 c.wrap.result fr ∙ sums_wrap c.args.bits c.args.x c.args.y c.wrap-first.result c.wrap-second.result _ c.wrap.result first second refl last
