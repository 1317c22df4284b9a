use Rattle.core_tree.specs.Trees.{term_of}
use Rattle.resolve_told_sigs.proofs.Said.{value_said}
use Rattle.resolve_told_sigs.proofs.says.says_value.Goals as goal

pub returns : goal.returns
returns c = λ h.
    value_said c.args.names.now.scopes c.args.model.now c.args.types.now c.args.instance c.args.picks.now c.args.tree.now (term_of c.args.expr.now) c.no_type-this.result c.in-Some._found
    c.no_type-this.ensures (c.in_ok-says_set.ensures c.if-not-branch.false) (rw c.in-Some.is at c.in_ok-root_type.ensures)
