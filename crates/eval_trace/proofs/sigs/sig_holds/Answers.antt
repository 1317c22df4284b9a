use Rattle.eval_tree.proofs.FoundLemmas.{said_true, said_false}
use Rattle.eval_trace.proofs.SetLaw.{many_found}
use Rattle.eval_trace.proofs.SigLaw.{sig_many, sig_placed, sig_children, sig_all}
use Rattle.eval_trace.specs.Asked.{Members}
use Rattle.eval_trace.proofs.sigs.sig_holds.Goals as goal

pub returns-then-not-many : goal.returns-then-not-many
returns-then-not-many c =
    sig_many c.args.judge.now c.args.position c.args.place c.args.sig.now (said_false c.has_multiplicity-many.result (many_found c.relation_at-found.result (Members c.args.judge.now c.args.position c.args.place) c.relation_at-found.ensures c.set_of-set.result.now c.set_of-set.ensures c.args.sig.now.multiplicity c.has_multiplicity-many.result c.has_multiplicity-many.ensures) c.if-not-many.true)

pub returns-then-not-placed : goal.returns-then-not-placed
returns-then-not-placed c =
    sig_placed c.args.judge.now c.args.position c.args.place c.args.sig.now (said_false c.in_ok-placed.placed c.in_ok-placed.ensures c.if-not-placed.true)

pub returns-then-not-children : goal.returns-then-not-children
returns-then-not-children c =
    sig_children c.args.judge.now c.args.position c.args.place c.args.sig.now (said_false c.in_ok-children.children c.in_ok-children.ensures c.if-not-children.true)

pub returns : goal.returns
returns c =
    sig_all c.args.judge.now c.args.position c.args.place c.args.sig.now (said_true c.has_multiplicity-many.result (many_found c.relation_at-found.result (Members c.args.judge.now c.args.position c.args.place) c.relation_at-found.ensures c.set_of-set.result.now c.set_of-set.ensures c.args.sig.now.multiplicity c.has_multiplicity-many.result c.has_multiplicity-many.ensures) c.if-not-many.false) (said_true c.in_ok-placed.placed c.in_ok-placed.ensures c.if-not-placed.false) (said_true c.in_ok-children.children c.in_ok-children.ensures c.if-not-children.false) c.in_ok-appended.appended c.in_ok-appended.ensures
