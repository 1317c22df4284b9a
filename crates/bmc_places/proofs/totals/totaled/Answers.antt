use Rattle.std.proofs.Common.{◌∙◌, subst}
use Rattle.std.proofs.lemmas.Option.{get_or_from_slice_get}
use Rattle.core_meaning.specs.Operators.{IsNumber}
use Rattle.gate_integers.specs.Numbers.{signed}
use Rattle.gate_matrix.specs.Matrices.{MatrixEntries}
use Rattle.gate_operators.specs.Sets.{set_of}
use Rattle.bmc_places.proofs.totals.totaled.Goals as goal

pub returns-clause-value : goal.returns-clause-value
returns-clause-value g c = λ p at x w e f.
    let value = g.G.Gates.node_value in
    let same = c.index.ensures ∙ get_or_from_slice_get c.args.store.now.matrices.items c.args.a p c.index.result.now at in
    subst (λ (q : MatrixEntries). IsNumber w (set_of (value c.args.gates.now x) q) (signed (value c.total_of.new.gates x) c.in_ok-made.made)) same (c.in_ok-made.ensures.value x w e f)
