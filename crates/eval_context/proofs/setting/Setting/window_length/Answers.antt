use Rattle.std.proofs.Common.{◌^◌, ◌<◌, arith}
use Rattle.eval_context.proofs.WindowLaw.{end_law, small_law}
use Rattle.eval_context.proofs.setting.Setting.window_length.Goals as goal

pub returns-clause-number : goal.returns-clause-number
returns-clause-number c = end_law c.window.result c.args.self.now.lasso c.window.ensures.states c.window.ensures.loop_start c.args.self.now.depth c.length.result c.window.ensures.depth c.length.ensures.end

pub returns-clause-small : goal.returns-clause-small
returns-clause-small c =
    let w = c.window.result in
    let below : w.states < 2 ^ 32 = omega arith in
    small_law w.states w.loop_start w.depth c.length.result c.length.ensures.number c.window.ensures.few below c.window.ensures.some
