use Rattle.std.proofs.Common.{Bool, List, [], ◌∷◌, sym, ◌∙◌, subst}
use Rattle.resolve_names.specs.Marks.{AreOpened}
use Rattle.resolve_names.proofs.Path.{opened_one, opened_not, may_true, may_false}
use Rattle.resolve_names.proofs.follow.mark_step.Goals as goal

pub returns-then-is_followed : goal.returns-then-is_followed
returns-then-is_followed c =
    subst (λ (ms : List Bool). AreOpened c.args.is_own c.args.alias.now (c.args.link.now ∷ []) c.args.marks.now.items ms) (sym c.mark.ensures)
    (opened_one c.args.is_own c.args.alias.now c.args.link.now c.args.marks.now.items (may_true c.args.is_own c.args.alias.now c.args.link.now (sym c.is_step-is_followed.ensures ∙ c.if-is_followed.true)) c.requires)

pub returns-else-is_followed : goal.returns-else-is_followed
returns-else-is_followed c =
    opened_not c.args.is_own c.args.alias.now c.args.link.now c.args.marks.now.items (may_false c.args.is_own c.args.alias.now c.args.link.now (sym c.is_step-is_followed.ensures ∙ c.if-is_followed.false))
