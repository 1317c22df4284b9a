use Rattle.std.proofs.Common.{◌≡◌, ℕ, List, Some, slice_get, subst}
use Rattle.bmc_windows.specs.Pairing.{ArePairs, IsMoved}
use Rattle.bmc_places.specs.Rests.{RestsAt}
use Rattle.bmc_places.proofs.RestLaws.{rests_are}
use Rattle.bmc_places.proofs.rests.rest_sets.Goals as goal

pub returns-clause-rests : goal.returns-clause-rests
returns-clause-rests g c =
    let value = g.G.Gates.node_value in
    let old = value c.args.gates.now in
    let new = value c.rests_of.new.gates in
    let a = c.args.store.now.matrices.items in
    let b = c.rests_of.new.store.matrices.items in
    let numbers = c.in_ok-made.made.items in
    let row = c.in_ok-row.row.items in
    let pairs = c.in_ok-pairs.pairs.pairs.items in
    let which = c.in_ok-pairs.pairs.row.items in
    let set = c.args.set.now.items in
    let are = subst (λ (xs : List ℕ). ArePairs pairs which xs set) c.deref.ensures.value (subst (λ (ys : List ℕ). ArePairs pairs which c.deref.result.now ys) c.deref-2.ensures.value c.in_ok-pairs.ensures) in
    let made = subst (λ (ps : List (ℕ × ℕ)). (j : ℕ) (pair : ℕ × ℕ) → slice_get ps j ≡ Some pair → (k : ℕ) × (slice_get numbers j ≡ Some k) × RestsAt c.args.at_start c.args.numbers.now old new a b pair.0 k) c.deref-3.ensures.value c.in_ok-made.ensures.rests in
    let moved = subst (λ (ns : List ℕ). IsMoved ns which row) c.deref-4.ensures.value (subst (λ (ws : List ℕ). IsMoved c.deref-4.result.now ws row) c.deref-5.ensures.value c.in_ok-row.ensures.moved) in
    rests_are c.args.at_start c.args.numbers.now old new a b set pairs which numbers row are made moved
