use Rattle.std.proofs.Common.{rules, ◌≡◌, ◌∙◌, ◌∷◌, [], ℕ, ℤ, ap, subst, w64, SFits}
use Rattle.std.proofs.lemmas.Int.{to_z-of_z}
use Rattle.core_meaning.specs.Integers.{wrap}
use Rattle.core_meaning.specs.World.{atom_of}
use Rattle.eval_context.specs.Settings.{world}
use Rattle.eval_sets.specs.SetOf.{IsSetOf}
use Rattle.eval_integers.proofs.values.wrapped.Goals as goal

pub returns : goal.returns
returns c =
    let fn : SFits w64 c.args.number = c.ranges.number in
    let fv : SFits w64 c.wrap-value.result = search rules in
    let value : c.wrap-value.result ≡ wrap c.bits-bits.result c.args.number = simp to_z-of_z at c.wrap-value.ensures.number in
    let made : IsSetOf c.in_ok-set.set (λ t. t ≡ atom_of (world c.args.setting.now) c.wrap-value.result ∷ []) = simp to_z-of_z at c.in_ok-set.ensures in
    subst (λ (z : ℤ). IsSetOf c.in_ok-set.set (λ t. t ≡ atom_of (world c.args.setting.now) z ∷ [])) (value ∙ ap (λ (b : ℕ). wrap b c.args.number) c.bits-bits.ensures.number) made
