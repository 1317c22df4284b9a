use Rattle.std.proofs.Common.{map}
use Rattle.core_tree.specs.Trees.{variable_of, variable_list}
use Rattle.eval_steps.specs.Judged.{scope_names, earlier_list, AreRowsFrom}
use Rattle.eval_tree.proofs.RowLaw.{Front}
use Rattle.eval_tree.proofs.walk.Walk.+rows.Given as goal

abbrev pub invariant-rows_of_atoms-loop-place : goal.invariant-rows_of_atoms-loop-place
invariant-rows_of_atoms-loop-place g l = AreRowsFrom l.self.judge.now l.goal l.variable (Front l.atoms.tuples l.place) (variable_list (map variable_of l.rest)) (scope_names l.self.judge.now l.scope) l.position (earlier_list l.earlier) l.most l.rows.items

abbrev pub decreases-rows_in : goal.decreases-rows_in
decreases-rows_in g l = l.deep

abbrev pub decreases-rows_of_atoms : goal.decreases-rows_of_atoms
decreases-rows_of_atoms g l = l.deep
