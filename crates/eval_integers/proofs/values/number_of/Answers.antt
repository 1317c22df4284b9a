use Rattle.std.proofs.Common.{ℕ, ℤ, List, map, sym, ap, ◌∙◌, subst, rules, w64, SFits}
use Rattle.std.proofs.lemmas.Int.{to_z-of_z}
use Rattle.core_tuples.specs.Sets.{In}
use Rattle.core_meaning.specs.Integers.{wrap, sum_of}
use Rattle.core_meaning.specs.Operators.{IsNumber}
use Rattle.eval_context.specs.Settings.{world}
use Rattle.eval_integers.specs.Amounts.{amount}
use Rattle.eval_integers.proofs.NumberLaw.{number_is}
use Rattle.eval_integers.proofs.values.number_of.Goals as goal

pub returns-clause-number : goal.returns-clause-number
returns-clause-number c =
    let fr : SFits w64 c.sum_of.result = search rules in
    subst (λ (z : ℤ). IsNumber (world c.args.setting.now) (λ t. In t c.args.set.now) z) (sym (to_z-of_z w64 c.sum_of.result fr))
    (number_is (world c.args.setting.now) c.args.set.now c.in_ok-members.members.items c.sum_of.result c.in_ok-members.ensures
    (c.sum_of.ensures.number ∙ ap (λ (l : List ℕ). wrap (world c.args.setting.now).bits (sum_of (map (amount (world c.args.setting.now)) l))) c.deref.ensures.value))
