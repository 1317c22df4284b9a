use Rattle.std.proofs.Common.{◌≡◌, ◌∷◌, [], ℕ, ℤ, ap, ◌∙◌, subst, rules, w64, SFits}
use Rattle.std.proofs.lemmas.Int.{to_z-of_z}
use Rattle.core_meaning.specs.Integers.{wrap, result_of}
use Rattle.core_tuples.specs.Sets.{In}
use Rattle.eval_context.specs.Settings.{world}
use Rattle.eval_integers.proofs.NumberLaw.{arithmetic_answer}
use Rattle.eval_sets.specs.SetOf.{IsSetOf}
use Rattle.core_meaning.specs.World.{atom_of}
use Rattle.eval_integers.proofs.operators.arithmetic.Goals as goal

pub returns : goal.returns
returns c =
    let fx : SFits w64 c.in_ok-x.x = search rules in
    let fy : SFits w64 c.in_ok-y.y = search rules in
    let fr : SFits w64 c.result_of-result.result = search rules in
    let fv : SFits w64 c.wrap-value.result = search rules in
    let result : c.result_of-result.result ≡ result_of c.args.op c.in_ok-x.x c.in_ok-y.y = simp to_z-of_z at c.result_of-result.ensures in
    let value : c.wrap-value.result ≡ wrap c.bits-bits.result c.result_of-result.result = simp to_z-of_z at c.wrap-value.ensures.number in
    let made : IsSetOf c.in_ok-number.number (λ t. t ≡ atom_of (world c.args.setting.now) c.wrap-value.result ∷ []) = simp to_z-of_z at c.in_ok-number.ensures in
    let e = value ∙ ap (λ (b : ℕ). wrap b c.result_of-result.result) c.bits-bits.ensures.number ∙ ap (wrap (world c.args.setting.now).bits) result in
    arithmetic_answer (world c.args.setting.now) c.args.op (λ t. In t c.args.a.now) (λ t. In t c.args.b.now) c.in_ok-x.x c.in_ok-y.y c.in_ok-number.number c.in_ok-x.ensures.number c.in_ok-y.ensures.number
    (subst (λ (z : ℤ). IsSetOf c.in_ok-number.number (λ t. t ≡ atom_of (world c.args.setting.now) z ∷ [])) e made)
