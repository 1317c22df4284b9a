use Rattle.core_tree.specs.Trees.{term_of}
use Rattle.bound_definitions.specs.Refusals.{BreaksTrees, IsValueRefusal}
use Rattle.bound_definitions.specs.Trees.{counted_value}
use Rattle.bound_scopes.specs.Limits.{IsFaultOf, IsValueFault}
use Rattle.bound_scopes.proofs.Refusing.{err_to, value_fault}
use Rattle.bound_scopes.proofs.value.check_value.Goals as goal

pub returns-clause-fault : goal.returns-clause-fault
returns-clause-fault c =
    err_to (IsFaultOf (IsValueRefusal c.args.model.now c.args.scopes.now.bits (term_of c.args.value.now) c.args.first)) IsValueFault c.check.result
    (λ e. value_fault (BreaksTrees c.args.model.now.bodies (counted_value (term_of c.args.value.now) c.args.first) c.args.scopes.now.bits) e) c.check.ensures.refused
