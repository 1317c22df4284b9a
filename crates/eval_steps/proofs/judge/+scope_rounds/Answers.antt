use Rattle.core_tree.specs.Trees.{term_of}
use Rattle.eval_steps.proofs.Rounds.{none_repeat, atom_repeats, written_rounds}
use Rattle.eval_steps.proofs.judge.+scope_rounds.Goals as goal

pub returns-in-Empty : goal.returns-in-Empty
returns-in-Empty t c few = rw c.in-Empty.is (none_repeat c.args.judge.now)

pub returns-in-Atom : goal.returns-in-Atom
returns-in-Atom t c few =
    rw c.in-Atom.is (atom_repeats c.args.judge.now _ _ c.in-Atom.rest.now c.scope_rounds.result (c.scope_rounds.ensures few))

pub returns-in-Written : goal.returns-in-Written
returns-in-Written t c few =
    rw c.in-Written.is (written_rounds c.args.judge.now _ (term_of c.in-Written.expr.now) c.in-Written.outer.now c.in-Written.rest.now c.scope_rounds-names.result c.expr_rounds-written.result c.scope_rounds-others.result c.max.result c.max.ensures c.expr_rounds-written.ensures.more few c.scope_rounds-names.ensures (c.expr_rounds-written.ensures.repeats c.in-Written.outer.now) c.scope_rounds-others.ensures)
