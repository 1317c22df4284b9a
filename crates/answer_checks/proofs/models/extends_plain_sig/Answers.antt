use Rattle.std.proofs.Common.{◌≡◌, subst}
use Rattle.answer_checks.specs.Parts.{IsPlainAt}
use Rattle.answer_checks.proofs.models.extends_plain_sig.Goals as goal

pub returns-in-Top : goal.returns-in-Top
returns-in-Top c = λ t p e. cc (c.in-Top.is, e)

pub returns-in-Extends : goal.returns-in-Extends
returns-in-Extends c = λ t p e.
    let same : c.in-Extends.parent ≡ p = cc (c.in-Extends.is, e) in
    subst (IsPlainAt c.args.sigs.now) same (c.is_plain_at.ensures t)

pub returns-in-Subset : goal.returns-in-Subset
returns-in-Subset c = λ t p e. cc (c.in-Subset.is, e)
