use Rattle.std.proofs.Common.{IfOk, refl, subst}
use Rattle.base_types.proofs.Counts.{none_fell_same}
use Rattle.cli_model.specs.Model.{IsAfter}
use Rattle.cli_model.proofs.OnModel.{refusal_after}
use Rattle.cli_model.proofs.traced.on_loaded.Goals as goal

pub returns-in-Ok-clause-after : goal.returns-in-Ok-clause-after
returns-in-Ok-clause-after g c =
    let told = g.L.Libraries.told c.args.libraries.now in
    let before = g.L.Libraries.counts c.args.libraries.now in
    let now = g.L.Libraries.counts c.on_ready.new.libraries in
    subst (λ m. IfOk c.on_ready.result (IsAfter m c.args.settings.now told before now)) c.in-Ok.ensures.loaded c.on_ready.ensures.after

pub returns-in-Err-clause-after : goal.returns-in-Err-clause-after
returns-in-Err-clause-after g c =
    let told = g.L.Libraries.told c.args.libraries.now in
    let before = g.L.Libraries.counts c.args.libraries.now in
    refusal_after c.args.loaded c.args.settings.now told before before c.not_analysed.result c.in-Err.fault refl c.in-Err.ensures.fault c.not_analysed.ensures

pub returns-in-Err-clause-later : goal.returns-in-Err-clause-later
returns-in-Err-clause-later g c = none_fell_same _
