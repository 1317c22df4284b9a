use Rattle.std.proofs.Common.{w64, SFits, rules}
use Rattle.std.proofs.lemmas.Int.{to_z-of_z}
use Rattle.bmc_walk.proofs.FormLaws.{sum_form}
use Rattle.bmc_walk.proofs.integers.form_integers.Goals as goal

pub returns-in_ok-made-in-Number-clause-right : goal.returns-in_ok-made-in-Number-clause-right
returns-in_ok-made-in-Number-clause-right g c =
    let f : SFits w64 c.in-Number.number = search rules in
    let told = simp to_z-of_z at c.in_ok-made-in-Number.ensures.right in
    rw c.in-Number.is told

pub returns-in_ok-made-in-Count-clause-right : goal.returns-in_ok-made-in-Count-clause-right
returns-in_ok-made-in-Count-clause-right g c = rw c.in-Count.is (rw c.deref.ensures at c.in_ok-made-in-Count.ensures.right)

pub returns-in_ok-made-in-Arithmetic-clause-right : goal.returns-in_ok-made-in-Arithmetic-clause-right
returns-in_ok-made-in-Arithmetic-clause-right g c = rw c.in-Arithmetic.is (rw c.deref-in-Arithmetic-2.ensures at (rw c.deref-in-Arithmetic.ensures at c.in_ok-made-in-Arithmetic.ensures.right))

pub returns-in_ok-made-in-Sum-clause-right : goal.returns-in_ok-made-in-Sum-clause-right
returns-in_ok-made-in-Sum-clause-right g c =
    let value = g.G.Gates.node_value in
    rw c.in-Sum.is (sum_form c.args.walk.now.ground.now c.args.known.now (value c.args.gates.now) (value c.sum_ints.new.gates) c.args.store.now.matrices.items c.sum_ints.new.store.integers.items c.in-Sum.list c.in-Sum.a c.deref-in-Sum.result.now c.deref-in-Sum-2.result.now c.in_ok-made-in-Sum.made.items c.deref-in-Sum.ensures.value c.deref-in-Sum-2.ensures c.in_ok-made-in-Sum.ensures.right)
