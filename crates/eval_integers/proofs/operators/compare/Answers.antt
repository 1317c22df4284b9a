use Rattle.std.proofs.Common.{◌↔◌, IsTrue, rules, w64, SFits}
use Rattle.std.proofs.lemmas.Int.{to_z-of_z}
use Rattle.core_tuples.specs.Sets.{In}
use Rattle.eval_context.specs.Settings.{world}
use Rattle.eval_integers.specs.Compared.{CompareOf}
use Rattle.eval_integers.proofs.NumberLaw.{compare_answer, iff_trans}
use Rattle.eval_integers.proofs.operators.compare.Goals as goal

pub returns : goal.returns
returns c =
    let fx : SFits w64 c.in_ok-x.x = search rules in
    let fy : SFits w64 c.in_ok-y.y = search rules in
    let told : IsTrue c.compares.result ↔ CompareOf c.args.op c.in_ok-x.x c.in_ok-y.y = simp to_z-of_z at c.compares.ensures in
    iff_trans told (compare_answer (world c.args.setting.now) c.args.op (λ t. In t c.args.a.now) (λ t. In t c.args.b.now) c.in_ok-x.x c.in_ok-y.y c.in_ok-x.ensures.number c.in_ok-y.ensures.number)
