use Rattle.core_tree.specs.Trees.{claim_of}
use Rattle.resolve_told_sigs.proofs.Said.{said_of_this}
use Rattle.resolve_told_sigs.proofs.says.says_of_this.Goals as goal

pub returns : goal.returns
returns c = λ h.
    said_of_this c.args.names.now.scopes c.args.model.now c.args.readings.now c.args.instance c.in-Some.picks.now c.args.sig c.args.own.now c.in-Some-sig_type.this.now
    c.in-Some.ensures c.in-Some-sig_type.ensures c.args.tree.now (claim_of c.args.formula.now) (c.in_ok-says_formula.ensures c.if-not-branch.false) (c.in_ok-read.ensures h)
