use Rattle.std.proofs.Common.{◌≡◌, ◌∙◌, ℕ, List, Some, length, replicate, slice_get, ap, subst, arith}
use Rattle.bmc_leaves.proofs.RelationLaws.{fixed_shown}
use Rattle.bmc_leaves.proofs.leaves.fixed_sets.Goals as goal

pub returns-clause-sets : goal.returns-clause-sets
returns-clause-sets g c = λ fixed.
    let numbers = c.in_ok-numbers.numbers.items in
    let shown = c.args.setting.now.frame.now.shown.items in
    let same : c.deref.result.now ≡ numbers = cc in
    let long : c.len.result ≡ length shown = omega (arith, c.len.ensures, c.args.setting.now.frame.now.shown.ok.0) in
    let first = subst (λ (ns : List ℕ). (n : ℕ) → slice_get ns 0 ≡ Some n → c.found_at.result ≡ n) same c.found_at.ensures in
    fixed_shown (g.G.Gates.node_value c.add_states.new.gates) c.add_states.new.store.matrices.items c.args.bound.now c.args.cells c.args.setting.now.bounds.now.states shown numbers c.in_ok-row.row.items c.found_at.result
    first c.in_ok-numbers.ensures.sets (c.in_ok-row.ensures ∙ ap (λ (n : ℕ). replicate n c.found_at.result) long) fixed
