use Rattle.std.proofs.Common.{ℕ, List, subst}
use Rattle.core_tree.specs.Trees.{term_of}
use Rattle.bmc_places.specs.declared.numbers.IntegerOperator.TheVariants.{AsSet}
use Rattle.bmc_places.specs.Numbers.{AreIntegers}
use Rattle.bmc_places.proofs.StoreLaws.{extends_trans}
use Rattle.bmc_walk.proofs.NumberLaws.{single_sets_law}
use Rattle.bmc_walk.proofs.integers.single_sets.Goals as goal

pub returns-clause-right : goal.returns-clause-right
returns-clause-right g c =
    let value = g.G.Gates.node_value in
    let belongs = g.G.Gates.belongs in
    let ground = c.args.walk.now.ground.now in
    let known = c.args.known.now in
    let b = c.form_integers.new.store in
    let d = c.made_integers.new.store in
    let old = value c.form_integers.new.gates in
    let new = value c.made_integers.new.gates in
    let u = ground.setting.universe in
    let first = c.in_ok-first.first.items in
    let made = c.in_ok-made.made.items in
    let are = subst (λ (xs : List ℕ). AreIntegers AsSet u old new b d xs first made) c.deref.ensures.value
    (subst (λ (ys : List ℕ). AreIntegers AsSet u old new b d c.deref.result.now ys made) c.deref-2.ensures.value c.in_ok-made.ensures.made) in
    single_sets_law belongs value ground known c.args.gates.now c.form_integers.new.gates c.made_integers.new.gates c.args.store.now b d (term_of c.args.expr.now) first made c.in_ok-first.ensures.right are

pub returns-clause-extends : goal.returns-clause-extends
returns-clause-extends g c = extends_trans c.args.store.now c.form_integers.new.store c.made_integers.new.store c.in_ok-first.ensures.extends c.in_ok-made.ensures.extends
