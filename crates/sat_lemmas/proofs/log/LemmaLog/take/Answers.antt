use Rattle.std.proofs.Common.{◌≡◌, sym, ◌∙◌, subst, List, ◌++◌, ◌∷◌, []}
use Rattle.sat_lrat.specs.declared.line.Line.{Line}
use Rattle.sat_lrat.specs.Step.{start, RefutesFrom}
use Rattle.sat_lemmas.specs.Outcome.{AreLemmas}
use Rattle.sat_lemmas.proofs.Taking.{added, refuted}
use Rattle.sat_lemmas.proofs.log.LemmaLog.take.Goals as goal

pub returns-in-Ok-Added-clause-leaves : goal.returns-in-Ok-Added-clause-leaves
returns-in-Ok-Added-clause-leaves c = λ formula h.
    let lines : c.push.new.self ≡ c.args.self.now.lines ++ c.args.line ∷ [] = c.in_ok-push-in-Ok-Added.ensures in
    let passes = c.in-Ok-Added.ensures.passes in
    subst (λ (ls : List Line). AreLemmas (start formula) ls c.add.new.self) (sym lines) (added c.args.self.now.lines _ _ _ c.args.line h (sym c.in-Ok-Added.field-0-is ∙ passes.1) passes.0)

pub returns-in-Ok-Refuted-clause-leaves : goal.returns-in-Ok-Refuted-clause-leaves
returns-in-Ok-Refuted-clause-leaves c = λ formula h.
    let lines : c.push-in-Ok-Refuted.new.self ≡ c.args.self.now.lines ++ c.args.line ∷ [] = c.in_ok-push-in-Ok-Refuted.ensures in
    let passes = c.in-Ok-Refuted.ensures.passes in
    subst (λ (ls : List Line). RefutesFrom (start formula) ls) (sym lines) (refuted c.args.self.now.lines _ _ _ c.args.line h (sym c.in-Ok-Refuted.field-0-is ∙ passes.1) passes.0)
