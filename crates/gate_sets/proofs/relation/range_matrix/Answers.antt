use Rattle.std.proofs.Common.{◌≤◌, arith}
use Rattle.gate_sets.proofs.relation.range_matrix.Goals as goal

pub returns-clause-means : goal.returns-clause-means
returns-clause-means g c = λ x t.
    let means = c.loop-atom.invariant.means x t in
    let some : c.args.first ≤ c.args.end = omega (arith, c.if-end-first.false) in
    let over : c.args.end ≤ c.loop-atom.atom = omega (arith, c.loop-atom-test.false) in
    let under : c.loop-atom.atom ≤ c.args.end = omega (arith, some, c.loop-atom.auto.atom-end) in (
      (λ e. let p = means.0 e in (p.0, p.1, omega (arith, p.2, under), p.3)),
      (λ q. means.1 (q.0, q.1, omega (arith, q.2, over), q.3)),
    )
