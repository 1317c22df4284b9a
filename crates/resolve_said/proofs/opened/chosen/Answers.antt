use Rattle.resolve_said.specs.Operators.{sets, formulas}
use Rattle.resolve_said.proofs.opened.chosen.Goals as goal

pub returns-in-Choose : goal.returns-in-Choose
returns-in-Choose c = rw c.in-Set.is (rw c.in-Choose.is (rw c.deref.ensures (rw c.deref-in-Choose.ensures (rw c.deref-in-Choose-2.ensures (sets)))))

pub returns-in-Choose-formula : goal.returns-in-Choose-formula
returns-in-Choose-formula c = rw c.in-Formula.is (rw c.in-Choose-formula.is (rw c.deref-in-Choose-formula.ensures (rw c.deref-in-Choose-formula-2.ensures (rw c.deref-in-Choose-formula-3.ensures (formulas)))))
