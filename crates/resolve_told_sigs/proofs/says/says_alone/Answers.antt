use Rattle.core_tree.specs.Trees.{claim_of}
use Rattle.resolve_told_sigs.proofs.Said.{said_alone}
use Rattle.resolve_told_sigs.proofs.says.says_alone.Goals as goal

pub returns : goal.returns
returns c = λ h.
    said_alone c.args.names.now.scopes c.args.model.now c.args.readings.now c.args.instance c.in-Some.picks.now c.args.tree.now (claim_of c.args.formula.now) c.no_type-this.result
    c.in-Some.ensures c.no_type-this.ensures (c.in_ok-says_formula.ensures c.if-not-branch.false) (c.in_ok-read.ensures h)
