use Rattle.std.proofs.Common.{ℤ, w64, subst, arith}
use Rattle.std.proofs.lemmas.Int.{to_z-of_z}
use Rattle.bmc_places.specs.Numbers.{IsSame}
use Rattle.bmc_walk.proofs.NumberLaws.{number_law}
use Rattle.bmc_walk.proofs.integers.number_ints.Goals as goal

pub returns-clause-right : goal.returns-clause-right
returns-clause-right g c =
    let value = g.G.Gates.node_value c.args.gates.now in
    let ground = c.args.walk.now.ground.now in
    let integers = c.constant_integers.new.store.integers.items in
    let row = c.in_ok-made.made.items in
    let same = subst (λ (z : ℤ). IsSame value integers ground.setting.universe.bits z c.len-count.result row) (to_z-of_z w64 c.args.number c.ranges.number) c.in_ok-made.ensures.constant in
    number_law ground c.args.known.now value c.args.store.now.matrices.items integers c.args.number c.args.place row c.len-count.result (omega (arith, c.len-count.ensures, ground.setting.frame.now.shown.ok.0)) same
