use Rattle.core_tree.specs.Trees.{term_of}
use Rattle.eval_steps.specs.Judged.{scope_names}
use Rattle.eval_tree.proofs.FoundLemmas.{said_true, said_false}
use Rattle.eval_tree.proofs.ListCases.{within_count, within_outside, within_fits}
use Rattle.eval_tree.proofs.walk.Walk.is_within.Goals as goal

pub returns-then-not-may : goal.returns-then-not-may
returns-then-not-may g c =
    within_count c.args.self.now.judge.now (scope_names c.args.self.now.judge.now c.args.scope.now) c.args.position c.args.set.now c.args.word (term_of c.args.bound.now) (said_false c.has_multiplicity-may.result c.has_multiplicity-may.ensures c.if-not-may.true)

pub returns-then-not-lies : goal.returns-then-not-lies
returns-then-not-lies g c =
    within_outside c.args.self.now.judge.now (scope_names c.args.self.now.judge.now c.args.scope.now) c.args.position c.args.set.now c.args.word (term_of c.args.bound.now) (said_false c.in_ok-lies.lies c.in_ok-lies.ensures c.if-not-lies.true)

pub returns : goal.returns
returns g c =
    within_fits c.args.self.now.judge.now (scope_names c.args.self.now.judge.now c.args.scope.now) c.args.position c.args.set.now c.args.word (term_of c.args.bound.now) (said_true c.in_ok-lies.lies c.in_ok-lies.ensures c.if-not-lies.false) (said_true c.has_multiplicity-may.result c.has_multiplicity-may.ensures c.if-not-may.false) _ c.fits.result c.fits.ensures
