use Rattle.answer_checks.proofs.models.is_plain.Goals as goal

pub returns-in-Top : goal.returns-in-Top
returns-in-Top c = λ t ps e. cc (c.in-Top.is, e)

pub returns-in-Extends : goal.returns-in-Extends
returns-in-Extends c = λ t ps e. cc (c.in-Extends.is, e)
