use Rattle.core_tree.specs.Trees.{term_of}
use Rattle.core_tuples.specs.Sets.{In}
use Rattle.eval_steps.specs.Judged.{scope_names, GoesAfter, GoesBefore}
use Rattle.eval_tree.proofs.FitsLaw.{ForTuples}
use Rattle.eval_tree.proofs.walk.Walk.+arrows.Given as goal

abbrev pub invariant-each_after-loop-place : goal.invariant-each_after-loop-place
invariant-each_after-loop-place g l = ForTuples (GoesAfter l.self.judge.now l.word (term_of l.other) (scope_names l.self.judge.now l.scope) l.position (λ u. In u l.set)) l.sides.tuples l.place

abbrev pub invariant-each_before-loop-place : goal.invariant-each_before-loop-place
invariant-each_before-loop-place g l = ForTuples (GoesBefore l.self.judge.now l.word (term_of l.other) (scope_names l.self.judge.now l.scope) l.position (λ u. In u l.set)) l.sides.tuples l.place

abbrev pub decreases-fits : goal.decreases-fits
decreases-fits g l = l.deep

abbrev pub decreases-fits_after : goal.decreases-fits_after
decreases-fits_after g l = l.deep

abbrev pub decreases-each_after : goal.decreases-each_after
decreases-each_after g l = l.deep

abbrev pub decreases-fits_before : goal.decreases-fits_before
decreases-fits_before g l = l.deep

abbrev pub decreases-each_before : goal.decreases-each_before
decreases-each_before g l = l.deep
