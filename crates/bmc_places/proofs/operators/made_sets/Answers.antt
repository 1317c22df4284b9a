use Rattle.std.proofs.Common.{ℕ, List, refl, subst}
use Rattle.bmc_stack.specs.Sets.{AreMade}
use Rattle.bmc_places.proofs.StoreLaws.{grows_extends}
use Rattle.bmc_places.proofs.operators.made_sets.Goals as goal

pub returns-clause-extends : goal.returns-clause-extends
returns-clause-extends g c = grows_extends c.args.store.now c.combined.new.store c.in_ok-made.ensures.grows

pub returns-clause-made : goal.returns-clause-made
returns-clause-made g c =
    let value = g.G.Gates.node_value in
    let old = value c.args.gates.now in
    let new = value c.combined.new.gates in
    let before = c.args.store.now.matrices.items in
    let after = c.combined.new.store.matrices.items in
    let made = c.in_ok-made.made.items in
    subst (λ (xs : List ℕ). AreMade c.args.op old new before after xs c.args.b.now.items made) c.deref.ensures.value
    (subst (λ (ys : List ℕ). AreMade c.args.op old new before after c.deref.result.now ys made) c.deref-2.ensures.value (c.in_ok-made.ensures.sets c.args.op refl))
