use Rattle.std.proofs.Common.{Option, IfSome, sym, subst}
use Rattle.core_tree.specs.declared.model.FieldBound.{FieldBound}
use Rattle.core_tree.specs.Trees.{term_of}
use Rattle.bound_laws.specs.Placed.{IsTermBelow}
use Rattle.answer_checks.proofs.fields.is_bound_below.Goals as goal

pub returns-in-Some : goal.returns-in-Some
returns-in-Some c = λ t. subst (λ (o : Option FieldBound). IfSome o (λ d. IsTermBelow c.args.sigs c.args.limit (term_of d.bound.expr))) (sym c.in-Some.is) (c.is_term_below.ensures t)
