use Rattle.std.proofs.Common.{rules, ◌≡◌, ◌∙◌, ◌∷◌, [], ◌^◌, ◌<◌, ℕ, pos, length, ap, arith, w64, SFits}
use Rattle.std.proofs.lemmas.Int.{to_z-of_z, ints}
use Rattle.core_meaning.specs.Integers.{wrap}
use Rattle.core_meaning.specs.World.{atom_of}
use Rattle.eval_context.specs.Settings.{world}
use Rattle.eval_sets.specs.SetOf.{IsSetOf}
use Rattle.core_tuples.specs.Sets.{In}
use Rattle.eval_integers.proofs.NumberLaw.{count_answer}
use Rattle.eval_integers.proofs.operators.count_of.Goals as goal

pub returns : goal.returns
returns c =
    let few : c.size_of-size.result < 2 ^ 63 = omega arith in
    let size : pos c.size_of-size.result ≡ pos (length c.args.set.now.tuples) = ap pos c.size_of-size.ensures.count in
    let fw : SFits w64 c.wrap-count.result = search rules in
    let count : c.wrap-count.result ≡ wrap c.bits-bits.result (pos c.size_of-size.result) = grind (arith, ints, to_z-of_z) in
    let made : IsSetOf c.in_ok-number.number (λ t. t ≡ atom_of (world c.args.setting.now) c.wrap-count.result ∷ []) = simp to_z-of_z at c.in_ok-number.ensures in
    count_answer (world c.args.setting.now) (λ u. In u c.args.set.now) c.wrap-count.result c.in_ok-number.number
    (c.args.set.now.tuples, c.size_of-size.ensures.listed, count ∙ ap (λ (b : ℕ). wrap b (pos c.size_of-size.result)) c.bits-bits.ensures.number ∙ ap (wrap (world c.args.setting.now).bits) size) made
