use Rattle.std.proofs.Common.{◌+◌, ap, length, arith, subst, ℕ, ◌≡◌}
use Rattle.core_meaning.specs.World.{InRelation}
use Rattle.eval_context.specs.Settings.{world}
use Rattle.eval_steps.specs.Judged.{IsFound}
use Rattle.eval_trace.proofs.fields.entries_at.Goals as goal

pub returns-in-Some : goal.returns-in-Some
returns-in-Some c =
    let e : c.in-Some.number ≡ length c.args.judge.now.model.sigs + c.args.place = omega (arith, ap length c.sig_list-sigs.ensures) in
    subst (λ (n : ℕ). IsFound c.relation_at.result (InRelation (world c.args.judge.now) n c.args.position)) e c.relation_at.ensures
