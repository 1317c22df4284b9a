use Rattle.bmc_leaves.proofs.ScopeLaws.{ever_fixed}
use Rattle.bmc_leaves.proofs.scopes.fixed_nodes.Goals as goal

pub returns-clause-ever : goal.returns-clause-ever
returns-clause-ever g c = λ x j lt.
    let h = c.in_ok-row.ensures.ever x j lt in
    let f = ever_fixed x c.args.cells c.args.states j c.requires in
    ((λ e. f.0 (h.0 e)), (λ k. h.1 (f.1 k)))
