use Rattle.gate_matrix.proofs.BasicLemmas.{belong_kept}
use Rattle.gate_matrix.proofs.FoundLemmas.{truth_kept}
use Rattle.gate_closure.proofs.WalkLaw.{doubled_made}
use Rattle.gate_closure.proofs.FilterLaw.{arity_made}
use Rattle.gate_closure.proofs.closed.doubled.Goals as goal

pub union-requires-clause-a_belongs : goal.union-requires-clause-a_belongs
union-requires-clause-a_belongs g c = belong_kept g.G.Gates.belongs g.G.Gates.node_value c.args.gates.now c.join.new.gates c.join.ensures.keeps c.args.a.now.entries c.requires.belongs

pub returns-clause-truth : goal.returns-clause-truth
returns-clause-truth g c =
    let value = g.G.Gates.node_value in
    let belongs = g.G.Gates.belongs in
    let first = c.args.gates.now in
    let mid = c.join.new.gates in
    let later = c.union.new.gates in
    doubled_made c.union.result (value first) (value mid) (value later) c.args.a.now c.in_ok-two.two c.arity.ensures.matrix c.requires.columns
    (truth_kept belongs value first mid c.join.ensures.keeps c.args.a.now c.requires.belongs) c.in_ok-two.ensures.truth c.union.ensures.truth

pub returns-clause-arity : goal.returns-clause-arity
returns-clause-arity g c = arity_made c.union.result c.args.a.now.arity 2 c.requires.columns c.union.ensures.arity
