use Rattle.std.proofs.Common.{◌≡◌, ◌<◌, ◌∷◌, [], ℕ, All, sym, arith, subst}
use Rattle.gate_integers.specs.Numbers.{signed}
use Rattle.gate_matrix.specs.declared.entry.Entry.{Entry}
use Rattle.gate_matrix.proofs.BasicLemmas.{all_as}
use Rattle.bmc_places.proofs.TotalLaws.{total_law}
use Rattle.bmc_places.proofs.totals.total_below.Goals as goal

pub returns-clause-value : goal.returns-clause-value
returns-clause-value g c = λ x w atoms bits.
    let value = g.G.Gates.node_value in
    let m = c.args.matrix.now in
    let u = c.args.universe in
    let one : m.arity ≡ 1 = omega (arith, c.arity-columns.ensures.columns, c.if-columns-ne1.false) in
    let below = c.are_below-below.ensures c.if-not-below.false in
    let within = subst (λ (n : ℕ). All (λ (e : Entry). (a : ℕ) → e.tuple ≡ a ∷ [] → a < n) m.entries) c.requires.end (all_as (λ (e : Entry). (a : ℕ) → e.tuple ≡ a ∷ [] → a < c.args.end) m.entries c.entries-entries.result.now (sym c.entries-entries.ensures.all) below) in
    total_law w u (value c.args.gates.now x) m (signed (value c.integer_of.new.gates x) c.in_ok-made.made) atoms bits c.entries-entries.ensures.matrix one within (c.in_ok-made.ensures.value x)
