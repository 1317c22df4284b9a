use Rattle.std.proofs.Common.{◌≡◌, ℕ, List, subst}
use Rattle.bmc_windows.specs.Pairing.{IsMoved}
use Rattle.bmc_leaves.proofs.RelationLaws.{moving_shown}
use Rattle.bmc_leaves.proofs.leaves.moving_sets.Goals as goal

pub returns-clause-sets : goal.returns-clause-sets
returns-clause-sets g c =
    let numbers = c.in_ok-numbers.numbers.items in
    let shown = c.args.setting.now.frame.now.shown.items in
    let row = c.in_ok-row.row.items in
    let one : c.deref.result.now ≡ numbers = cc in
    let two : c.deref-2.result.now ≡ shown = cc in
    let moved = subst (λ (ns : List ℕ). IsMoved ns shown row) one (subst (λ (places : List ℕ). IsMoved c.deref.result.now places row) two c.in_ok-row.ensures.moved) in
    moving_shown (g.G.Gates.node_value c.add_states.new.gates) c.add_states.new.store.matrices.items c.args.bound.now c.args.cells c.args.setting.now.bounds.now.states shown numbers row c.in_ok-numbers.ensures.sets moved
