use Rattle.std.proofs.Common.{◌≡◌, ℕ, List, sym, subst}
use Rattle.bmc_windows.specs.Pairing.{ArePairs, IsMoved}
use Rattle.bmc_stack.specs.Steps.{AllMade}
use Rattle.bmc_stack.proofs.PlaceLaws.{made_at}
use Rattle.bmc_stack.proofs.places.combined.Goals as goal

pub returns-clause-sets : goal.returns-clause-sets
returns-clause-sets g c = λ of is.
    let value = g.G.Gates.node_value in
    let old = value c.args.gates.now in
    let new = value c.made_of.new.gates in
    let before = c.args.store.now.matrices.items in
    let after = c.made_of.new.store.matrices.items in
    let pairs = c.in_ok-pairs.pairs.pairs.items in
    let which = c.in_ok-pairs.pairs.row.items in
    let numbers = c.in_ok-numbers.numbers.items in
    let one : c.deref.result.now ≡ pairs = cc in
    let two : c.deref-2.result.now ≡ numbers = cc in
    let three : c.deref-3.result.now ≡ which = cc in
    made_at of c.args.op old new before after c.args.a.now c.args.b.now pairs which numbers c.in_ok-row.row.items is c.in_ok-pairs.ensures
    (subst (λ (ps : List (ℕ × ℕ)). AllMade c.args.op old new before after ps numbers) one c.in_ok-numbers.ensures.made)
    (subst (λ (ws : List ℕ). IsMoved numbers ws c.in_ok-row.row.items) three (subst (λ (ns : List ℕ). IsMoved ns c.deref-3.result.now c.in_ok-row.row.items) two c.in_ok-row.ensures.moved))
