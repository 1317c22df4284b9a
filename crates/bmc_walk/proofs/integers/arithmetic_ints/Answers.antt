use Rattle.std.proofs.Common.{ℕ, List, subst}
use Rattle.core_tree.specs.Trees.{term_of, arithmetic}
use Rattle.bmc_places.specs.declared.numbers.IntegerOperator.TheVariants.{Of}
use Rattle.bmc_places.specs.Numbers.{AreIntegers}
use Rattle.bmc_places.proofs.StoreLaws.{extends_trans}
use Rattle.bmc_walk.proofs.NumberLaws.{two_numbers, calculated_right}
use Rattle.bmc_walk.proofs.integers.arithmetic_ints.Goals as goal

pub returns-clause-right : goal.returns-clause-right
returns-clause-right g c =
    let value = g.G.Gates.node_value in
    let belongs = g.G.Gates.belongs in
    let ground = c.args.walk.now.ground.now in
    let known = c.args.known.now in
    let b = c.part_integers.new.store in
    let d = c.part_integers-2.new.store in
    let e = c.made_integers.new.store in
    let old = value c.part_integers-2.new.gates in
    let new = value c.made_integers.new.gates in
    let op = c.args.op in
    let u = ground.setting.universe in
    let first = c.in_ok-first.first.items in
    let second = c.in_ok-second.second.items in
    let made = c.in_ok-made.made.items in
    let x = term_of c.args.a.now in
    let y = term_of c.args.b.now in
    let are = subst (λ (xs : List ℕ). AreIntegers (Of op) u old new d e xs second made) c.deref.ensures.value
    (subst (λ (ys : List ℕ). AreIntegers (Of op) u old new d e c.deref.result.now ys made) c.deref-2.ensures.value c.in_ok-made.ensures.made) in
    two_numbers belongs value ground known c.args.gates.now c.part_integers.new.gates c.part_integers-2.new.gates c.made_integers.new.gates c.args.store.now b d e x y (arithmetic op x y) first second made
    c.part_integers.ensures.keeps c.part_integers-2.ensures.keeps c.requires.stored c.in_ok-first.ensures.stored c.in_ok-first.ensures.extends c.in_ok-second.ensures.extends
    (λ n le. le) c.in_ok-first.ensures.right c.in_ok-second.ensures.right
    (λ r ok left right. calculated_right r old new d e op x y first second made u left right are)

pub returns-clause-extends : goal.returns-clause-extends
returns-clause-extends g c =
    let a = c.args.store.now in
    let b = c.part_integers.new.store in
    let d = c.part_integers-2.new.store in
    let e = c.made_integers.new.store in
    extends_trans a b e c.in_ok-first.ensures.extends (extends_trans b d e c.in_ok-second.ensures.extends c.in_ok-made.ensures.extends)
