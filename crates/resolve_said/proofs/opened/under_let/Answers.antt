use Rattle.resolve_said.specs.Operators.{in_set, in_formula}
use Rattle.resolve_said.proofs.opened.under_let.Goals as goal

pub returns-in-Let : goal.returns-in-Let
returns-in-Let c = rw c.in-Set.is (rw c.in-Let.is (rw c.deref.ensures (rw c.deref-in-Let.ensures (in_set))))

pub returns-in-Let-formula : goal.returns-in-Let-formula
returns-in-Let-formula c = rw c.in-Formula.is (rw c.in-Let-formula.is (rw c.deref-in-Let-formula.ensures (rw c.deref-in-Let-formula-2.ensures (in_formula))))
