use Rattle.std.proofs.Common.{ℤ, pos, negsuc, ◌≤ℤ◌, ◌<ℤ◌, ◌∙◌, refl, sym, subst, get_or, rules, w64, SFits}
use Rattle.std.proofs.lemmas.Int.{to_z-of_z}
use Rattle.eval_context.specs.Settings.{world}
use Rattle.eval_integers.specs.Amounts.{amount}
use Rattle.eval_integers.proofs.NumberLaw.{sum_more}
use Rattle.eval_integers.proofs.values.sum_of.Goals as goal

pub loop-number-preserved : goal.loop-number-preserved
loop-number-preserved c =
    let fr : SFits w64 c.with_number-sum.result = search rules in
    let same = to_z-of_z w64 c.with_number-sum.result fr in
    record {
      number = same ∙ sum_more (world c.args.setting.now).bits (amount (world c.args.setting.now)) c.args.numbers.now c.loop-number.number-index (get_or c.args.numbers.now c.loop-number.number-index 0) _ c.with_number-sum.result c.loop-number-test.true refl c.loop-number.invariant.number c.with_number-sum.ensures.number;
      low = subst (λ (z : ℤ). negsuc 8191 ≤ℤ z) (sym same) c.with_number-sum.ensures.low;
      high = subst (λ (z : ℤ). z <ℤ pos 8192) (sym same) c.with_number-sum.ensures.high;
    }
