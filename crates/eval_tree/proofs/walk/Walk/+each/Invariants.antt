use Rattle.std.proofs.Common.{map}
use Rattle.core_tree.specs.Trees.{claim_of, variable_of, variable_list}
use Rattle.eval_steps.specs.Judged.{scope_names, HoldsIn, Says, earlier_list}
use Rattle.eval_tree.proofs.FrontLemmas.{ForFront}
use Rattle.eval_tree.proofs.ChoiceLaw.{ForAtom}
use Rattle.eval_tree.proofs.walk.Walk.+each.Given as goal

abbrev pub invariant-for_each_atom-loop-place : goal.invariant-for_each_atom-loop-place
invariant-for_each_atom-loop-place g l = ForFront (ForAtom l.self.judge.now l.variable (variable_list (map variable_of l.rest)) (λ names. Says l.sense (HoldsIn l.self.judge.now (claim_of l.formula) names l.position)) (scope_names l.self.judge.now l.scope) l.position (earlier_list l.earlier)) l.atoms.tuples l.place

abbrev pub decreases-for_each : goal.decreases-for_each
decreases-for_each g l = l.deep

abbrev pub decreases-for_each_atom : goal.decreases-for_each_atom
decreases-for_each_atom g l = l.deep
