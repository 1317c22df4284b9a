use Rattle.std.proofs.Common.{◌≡◌, ◌∷◌, [], w64, SFits}
use Rattle.std.proofs.lemmas.Int.{to_z-of_z}
use Rattle.core_meaning.specs.World.{atom_of}
use Rattle.eval_context.specs.Settings.{world}
use Rattle.eval_sets.specs.SetOf.{IsSetOf}
use Rattle.eval_steps.proofs.PartLaw.{integer_is}
use Rattle.eval_steps.proofs.parts.one_integer.Goals as goal

pub returns : goal.returns
returns c =
    let fn : SFits w64 c.args.number = c.ranges.number in
    let told : IsSetOf c.in_ok-set.set (λ t. t ≡ atom_of (world c.setting-setting.result.now) c.args.number ∷ []) = simp to_z-of_z at c.in_ok-set.ensures in
    integer_is c.setting-setting.result.now c.args.judge.now c.setting-setting.ensures c.args.number c.in_ok-set.set told
