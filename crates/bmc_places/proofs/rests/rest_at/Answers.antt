use Rattle.std.proofs.Common.{◌≡◌, ◌↔◌, ◌∙◌, true, subst}
use Rattle.std.proofs.lemmas.Option.{get_or_from_slice_get}
use Rattle.gate_matrix.specs.Matrices.{MatrixEntries, truth}
use Rattle.bmc_places.specs.Rests.{joined}
use Rattle.bmc_places.proofs.rests.rest_at.Goals as goal

pub returns-clause-means : goal.returns-clause-means
returns-clause-means g c = λ p at x u.
    let value = g.G.Gates.node_value in
    let same = c.index.ensures ∙ get_or_from_slice_get c.args.store.now.matrices.items c.args.number p c.index.result.now at in
    subst (λ (q : MatrixEntries). (truth (value c.rest_matrix.new.gates x) c.in_ok-made.made u ≡ true) ↔ (truth (value c.args.gates.now x) q (joined c.args.at_start c.args.numbers.now u) ≡ true)) same (c.in_ok-made.ensures.means x u)
