use Rattle.std.proofs.Common.{refl, subst}
use Rattle.core_tree.specs.Trees.{term_of}
use Rattle.bound_definitions.specs.Refusals.{IsValueRefusal}
use Rattle.bound_scopes.specs.Limits.{IsFaultOf}
use Rattle.answer_judge.proofs.expression.checked.Goals as goal

pub returns-in-Ok : goal.returns-in-Ok
returns-in-Ok c = (refl, c.in-Ok.ensures.kept)

pub returns-in-Err-Refused : goal.returns-in-Err-Refused
returns-in-Err-Refused c =
    subst (IsFaultOf (IsValueRefusal c.args.model.now c.args.scopes.now.bits (term_of c.args.value) c.args.first)) c.in-Err-Refused.field-0-is c.in-Err-Refused.ensures.refused
