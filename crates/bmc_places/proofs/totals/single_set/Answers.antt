use Rattle.std.proofs.Common.{◌≡◌, ◌∙◌, ◌∷◌, [], List, subst}
use Rattle.std.proofs.lemmas.Option.{get_or_from_slice_get}
use Rattle.gate_trait.specs.declared.node.Node.{Node}
use Rattle.gate_arithmetic.specs.Singles.{atom_for}
use Rattle.gate_integers.specs.Numbers.{signed}
use Rattle.gate_operators.specs.Sets.{MeansSet}
use Rattle.bmc_places.proofs.totals.single_set.Goals as goal

pub returns-clause-means : goal.returns-clause-means
returns-clause-means g c = λ s at x.
    let value = g.G.Gates.node_value in
    let same = c.index.ensures ∙ get_or_from_slice_get c.args.store.now.integers.items c.args.a s c.index.result.now at in
    subst (λ (r : List Node). MeansSet (value c.single_of.new.gates x) c.in_ok-made.made (λ t. t ≡ atom_for c.args.universe (signed (value c.args.gates.now x) r) ∷ [])) same (c.in_ok-made.ensures.means x)
