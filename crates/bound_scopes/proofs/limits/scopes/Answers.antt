use Rattle.std.proofs.Common.{arith}
use Rattle.core_tree.specs.declared.model.Command.{Command}
use Rattle.bound_definitions.specs.Refusals.{IsRefusal}
use Rattle.bound_scopes.specs.Limits.{IsFaultOf, IsScopeFault}
use Rattle.bound_scopes.proofs.Pairs.{past_none}
use Rattle.bound_scopes.proofs.Refusing.{err_to, scope_fault}
use Rattle.bound_scopes.proofs.limits.scopes.Goals as goal

pub returns-then-command-len-clause-refused : goal.returns-then-command-len-clause-refused
returns-then-command-len-clause-refused c = past_none (λ (d : Command). IsFaultOf (IsRefusal c.args.model.now d) c.refused.result) c.args.model.now.commands c.args.command (omega arith)

pub returns-clause-fault : goal.returns-clause-fault
returns-clause-fault c = λ lt.
    err_to (IsFaultOf (IsRefusal c.args.model.now c.get-chosen.result.now)) IsScopeFault c.scopes_of.result (λ e. scope_fault c.args.model.now c.get-chosen.result.now e) c.scopes_of.ensures.refused
