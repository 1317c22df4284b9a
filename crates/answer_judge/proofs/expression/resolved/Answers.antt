use Rattle.std.proofs.Common.{inl, subst}
use Rattle.core_tree.specs.Trees.{term_of}
use Rattle.resolve_model.specs.Refused.{IsValueFault}
use Rattle.answer_judge.proofs.Reading.{checked_read}
use Rattle.answer_judge.proofs.expression.resolved.Goals as goal

pub returns-else-not-said : goal.returns-else-not-said
returns-else-not-said c =
    checked_read c.args.loaded.now c.args.model.now c.args.types.now c.args.scopes.now.bits c.args.tree.now c.args.first (term_of c.in-Ok.found.value) c.in-Ok.ensures.kept
    (c.in_ok-said-in-Ok.ensures c.if-not-said.false) c.checked.result c.checked.ensures

pub returns-in-Err-Refused : goal.returns-in-Err-Refused
returns-in-Err-Refused c = inl (rw c.in-Err-Refused.field-0-is (subst IsValueFault c.in-Err-Refused.field-0-is c.in-Err-Refused.ensures.fault))
