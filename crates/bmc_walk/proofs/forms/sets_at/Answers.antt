use Rattle.bmc_walk.proofs.FormLaws.{comprehension_form}
use Rattle.bmc_walk.proofs.forms.sets_at.Goals as goal

pub returns-in_ok-made-in-Product-clause-right : goal.returns-in_ok-made-in-Product-clause-right
returns-in_ok-made-in-Product-clause-right g c = rw c.in-Product.is (rw c.deref-in-Product.ensures at (rw c.deref.ensures at c.in_ok-made-in-Product.ensures.right))

pub returns-in_ok-made-in-Unary-clause-right : goal.returns-in_ok-made-in-Unary-clause-right
returns-in_ok-made-in-Unary-clause-right g c = rw c.in-Unary.is (rw c.deref-in-Unary.ensures at c.in_ok-made-in-Unary.ensures.right)

pub returns-in_ok-made-in-Prime-clause-right : goal.returns-in_ok-made-in-Prime-clause-right
returns-in_ok-made-in-Prime-clause-right g c = rw c.in-Prime.is (rw c.deref-in-Prime.ensures at c.in_ok-made-in-Prime.ensures.right)

pub returns-in_ok-made-in-Choose-clause-right : goal.returns-in_ok-made-in-Choose-clause-right
returns-in_ok-made-in-Choose-clause-right g c = rw c.in-Choose.is (rw c.deref-in-Choose-3.ensures at (rw c.deref-in-Choose-2.ensures at (rw c.deref-in-Choose.ensures at c.in_ok-made-in-Choose.ensures.right)))

pub returns-in_ok-made-in-Comprehension-clause-right : goal.returns-in_ok-made-in-Comprehension-clause-right
returns-in_ok-made-in-Comprehension-clause-right g c =
    let value = g.G.Gates.node_value in
    rw c.in-Comprehension.is (comprehension_form c.args.walk.now.ground.now c.args.known.now (value c.args.gates.now) (value c.comprehension_sets.new.gates) c.args.store.now.matrices.items c.comprehension_sets.new.store.matrices.items c.in-Comprehension.list c.in-Comprehension.f c.deref-in-Comprehension.result.now c.deref-in-Comprehension-2.result.now c.in_ok-made-in-Comprehension.made.items c.deref-in-Comprehension.ensures.value c.deref-in-Comprehension-2.ensures c.in_ok-made-in-Comprehension.ensures.right)
