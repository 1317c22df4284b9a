use Rattle.std.proofs.Common.{◌≡◌, ℕ, List, Some, slice_get, subst}
use Rattle.bmc_windows.specs.Pairing.{IsMoved}
use Rattle.bmc_places.specs.Numbers.{MakesInteger}
use Rattle.bmc_places.proofs.NumberLaws.{made_at}
use Rattle.bmc_places.proofs.numbers.made_integers.Goals as goal

pub returns-clause-made : goal.returns-clause-made
returns-clause-made g c =
    let value = g.G.Gates.node_value in
    let old = value c.args.gates.now in
    let new = value c.made_of.new.gates in
    let a = c.args.store.now in
    let b = c.made_of.new.store in
    let numbers = c.in_ok-numbers.numbers.items in
    let row = c.in_ok-row.row.items in
    let made = subst (λ (ps : List (ℕ × ℕ)). (j : ℕ) (pair : ℕ × ℕ) → slice_get ps j ≡ Some pair → (k : ℕ) × (slice_get numbers j ≡ Some k) × MakesInteger c.args.op c.args.universe old new a b pair k) c.deref.ensures.value c.in_ok-numbers.ensures.made in
    let moved = subst (λ (ns : List ℕ). IsMoved ns c.in_ok-pairs.pairs.row.items row) c.deref-2.ensures.value (subst (λ (ws : List ℕ). IsMoved c.deref-2.result.now ws row) c.deref-3.ensures.value c.in_ok-row.ensures.moved) in
    made_at c.args.op c.args.universe old new a b c.args.a.now c.args.b.now c.in_ok-pairs.pairs.pairs.items c.in_ok-pairs.pairs.row.items numbers row c.in_ok-pairs.ensures made moved
