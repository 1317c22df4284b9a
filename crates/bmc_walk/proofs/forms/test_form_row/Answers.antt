use Rattle.bmc_walk.proofs.forms.test_form_row.Goals as goal

pub returns-in_ok-row-in-Inside-clause-right : goal.returns-in_ok-row-in-Inside-clause-right
returns-in_ok-row-in-Inside-clause-right g c = rw c.in-Inside.is (rw c.deref-in-Inside.ensures at (rw c.deref.ensures at c.in_ok-row-in-Inside.ensures.right))

pub returns-in_ok-row-in-Equal-clause-right : goal.returns-in_ok-row-in-Equal-clause-right
returns-in_ok-row-in-Equal-clause-right g c = rw c.in-Equal.is (rw c.deref-in-Equal-2.ensures at (rw c.deref-in-Equal.ensures at c.in_ok-row-in-Equal.ensures.right))

pub returns-in_ok-row-in-Within-clause-right : goal.returns-in_ok-row-in-Within-clause-right
returns-in_ok-row-in-Within-clause-right g c = rw c.in-Within.is (rw c.deref-in-Within-2.ensures at (rw c.deref-in-Within.ensures at c.in_ok-row-in-Within.ensures.right))

pub returns-in_ok-row-in-Test-clause-right : goal.returns-in_ok-row-in-Test-clause-right
returns-in_ok-row-in-Test-clause-right g c = rw c.in-Test.is (rw c.deref-in-Test.ensures at c.in_ok-row-in-Test.ensures.right)

pub returns-in_ok-row-in-Compare-clause-right : goal.returns-in_ok-row-in-Compare-clause-right
returns-in_ok-row-in-Compare-clause-right g c = rw c.in-Compare.is (rw c.deref-in-Compare-2.ensures at (rw c.deref-in-Compare.ensures at c.in_ok-row-in-Compare.ensures.right))
