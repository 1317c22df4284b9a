use Rattle.eval_context.proofs.WindowLaw.{place_law, inside_law, loop_law}
use Rattle.eval_context.proofs.setting.Setting.fold.Goals as goal

pub returns-clause-place : goal.returns-clause-place
returns-clause-place c = place_law c.window.result c.args.self.now.lasso c.window.ensures.states c.window.ensures.loop_start c.args.self.now.depth c.args.position c.fold.result c.window.ensures.depth c.fold.ensures.place

pub returns-clause-inside : goal.returns-clause-inside
returns-clause-inside c =
    inside_law c.args.self.now.lasso c.args.self.now.depth c.args.position c.fold.result
    (loop_law c.window.result c.args.self.now.lasso c.window.ensures.states c.window.ensures.loop_start c.window.ensures.some)
    (place_law c.window.result c.args.self.now.lasso c.window.ensures.states c.window.ensures.loop_start c.args.self.now.depth c.args.position c.fold.result c.window.ensures.depth c.fold.ensures.place)
