use Rattle.std.proofs.Common.{◌≡◌, ℤ, pos, ◌+ℤ◌, ap, ◌∙◌, rules, w64, SFits}
use Rattle.std.proofs.lemmas.Int.{to_z-of_z}
use Rattle.core_meaning.specs.Integers.{wrap}
use Rattle.eval_context.specs.Settings.{world}
use Rattle.eval_integers.proofs.NumberLaw.{amount_some, amount_none}
use Rattle.eval_integers.proofs.values.with_number.Goals as goal

pub returns-in-Some-clause-number : goal.returns-in-Some-clause-number
returns-in-Some-clause-number c =
    let k = c.in-Some.ensures.some in
    let fs : SFits w64 c.args.sum = c.ranges.sum in
    let fi : SFits w64 c.in-Some.integer = search rules in
    let fr : SFits w64 c.add.result = search rules in
    let told : c.add.result ≡ wrap (world c.args.setting.now).bits (c.args.sum +ℤ c.in-Some.integer) = simp to_z-of_z at c.add.ensures.number in
    to_z-of_z w64 c.add.result fr ∙ told ∙ ap (λ (z : ℤ). wrap (world c.args.setting.now).bits (c.args.sum +ℤ z)) (amount_some (world c.args.setting.now) c.args.number c.in-Some.integer k.0 k.1)

pub returns-in-None-clause-number : goal.returns-in-None-clause-number
returns-in-None-clause-number c =
    let fs : SFits w64 c.args.sum = c.ranges.sum in
    let fr : SFits w64 c.add-in-None.result = search rules in
    let told : c.add-in-None.result ≡ wrap (world c.args.setting.now).bits (c.args.sum +ℤ pos 0) = simp to_z-of_z at c.add-in-None.ensures.number in
    to_z-of_z w64 c.add-in-None.result fr ∙ told ∙ ap (λ (z : ℤ). wrap (world c.args.setting.now).bits (c.args.sum +ℤ z)) (amount_none (world c.args.setting.now) c.args.number c.in-None.ensures.none)
