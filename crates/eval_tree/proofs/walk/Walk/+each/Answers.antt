use Rattle.std.proofs.Common.{◌∙◌, map, arith}
use Rattle.std.proofs.lemmas.List.{nil_from_length}
use Rattle.core_tree.specs.Trees.{claim_of, variable_of, variable_list}
use Rattle.eval_steps.specs.Judged.{scope_names, HoldsIn, Says, earlier_list}
use Rattle.eval_tree.proofs.FoundLemmas.{says_said, said_true, said_false, true_holds}
use Rattle.eval_tree.proofs.ListCases.{each_none, each_some, read_set}
use Rattle.eval_tree.proofs.FrontLemmas.{front_none, front_more, front_all}
use Rattle.eval_tree.proofs.ChoiceLaw.{ForAtom, no_atoms_each, each_fails}
use Rattle.eval_tree.proofs.walk.Walk.+each.Goals as goal

pub for_each-returns-in_ok-truth-in-None : goal.for_each-returns-in_ok-truth-in-None
for_each-returns-in_ok-truth-in-None g t c =
    each_none c.args.self.now.judge.now (scope_names c.args.self.now.judge.now c.args.scope.now) c.args.position (λ names. Says c.args.sense (HoldsIn c.args.self.now.judge.now (claim_of c.args.formula.now) names c.args.position)) (earlier_list c.args.earlier.now) c.args.variables.now (nil_from_length _ c.in-None.ensures.cases) c.says.result (says_said c.args.sense c.in_ok-truth-in-None.truth c.says.result c.in_ok-truth-in-None.ensures c.says.ensures)

pub for_each-returns-in_ok-found-in-Some : goal.for_each-returns-in_ok-found-in-Some
for_each-returns-in_ok-found-in-Some g t c =
    each_some c.args.self.now.judge.now (scope_names c.args.self.now.judge.now c.args.scope.now) c.args.position (λ names. Says c.args.sense (HoldsIn c.args.self.now.judge.now (claim_of c.args.formula.now) names c.args.position)) (earlier_list c.args.earlier.now) c.args.variables.now c.in-Some.first.now c.in-Some.rest.now c.in-Some.ensures.cases.0 c.set_of-atoms.result.now (read_set c.args.self.now.judge.now (scope_names c.args.self.now.judge.now c.args.scope.now) c.args.position c.in-Some.first.now.bound c.in_ok-found-in-Some.found c.in_ok-found-in-Some.ensures c.set_of-atoms.result.now c.set_of-atoms.ensures) _ c.for_each_atom.result c.for_each_atom.ensures

pub for_each_atom-returns-then-arity-ne1 : goal.for_each_atom-returns-then-arity-ne1
for_each_atom-returns-then-arity-ne1 g t c =
    no_atoms_each c.args.self.now.judge.now c.args.variable.now (variable_list (map variable_of c.args.rest.now)) (λ names. Says c.args.sense (HoldsIn c.args.self.now.judge.now (claim_of c.args.formula.now) names c.args.position)) (scope_names c.args.self.now.judge.now c.args.scope.now) c.args.position (earlier_list c.args.earlier.now) c.args.atoms.now c.arity.ensures.set (λ e. c.if-arity-ne1.true (c.arity.ensures.columns ∙ e))

pub for_each_atom-loop-place-init : goal.for_each_atom-loop-place-init
for_each_atom-loop-place-init g t c =
    front_none (ForAtom c.args.self.now.judge.now c.args.variable.now (variable_list (map variable_of c.args.rest.now)) (λ names. Says c.args.sense (HoldsIn c.args.self.now.judge.now (claim_of c.args.formula.now) names c.args.position)) (scope_names c.args.self.now.judge.now c.args.scope.now) c.args.position (earlier_list c.args.earlier.now)) c.args.atoms.now.tuples

pub for_each_atom-loop-place-preserved-then-not-apart : goal.for_each_atom-loop-place-preserved-then-not-apart
for_each_atom-loop-place-preserved-then-not-apart g t c =
    front_more (ForAtom c.args.self.now.judge.now c.args.variable.now (variable_list (map variable_of c.args.rest.now)) (λ names. Says c.args.sense (HoldsIn c.args.self.now.judge.now (claim_of c.args.formula.now) names c.args.position)) (scope_names c.args.self.now.judge.now c.args.scope.now) c.args.position (earlier_list c.args.earlier.now)) c.args.atoms.now.tuples c.loop-place.place c.atom_at-atom.result c.loop-place.invariant (omega arith) c.atom_at-atom.ensures (λ apart. absurd (said_false c.is_apart-apart.result c.is_apart-apart.ensures c.if-not-apart.true apart))

pub for_each_atom-loop-place-preserved : goal.for_each_atom-loop-place-preserved
for_each_atom-loop-place-preserved g t c =
    front_more (ForAtom c.args.self.now.judge.now c.args.variable.now (variable_list (map variable_of c.args.rest.now)) (λ names. Says c.args.sense (HoldsIn c.args.self.now.judge.now (claim_of c.args.formula.now) names c.args.position)) (scope_names c.args.self.now.judge.now c.args.scope.now) c.args.position (earlier_list c.args.earlier.now)) c.args.atoms.now.tuples c.loop-place.place c.atom_at-atom.result c.loop-place.invariant (omega arith) c.atom_at-atom.ensures (λ apart. said_true c.in_ok-each.each c.in_ok-each.ensures c.if-not-each.false)

pub for_each_atom-returns-then-not-each : goal.for_each_atom-returns-then-not-each
for_each_atom-returns-then-not-each g t c =
    each_fails c.args.self.now.judge.now c.args.variable.now (variable_list (map variable_of c.args.rest.now)) (λ names. Says c.args.sense (HoldsIn c.args.self.now.judge.now (claim_of c.args.formula.now) names c.args.position)) (scope_names c.args.self.now.judge.now c.args.scope.now) c.args.position (earlier_list c.args.earlier.now) c.args.atoms.now c.loop-place.place c.atom_at-atom.result (omega arith) c.atom_at-atom.ensures (said_true c.is_apart-apart.result c.is_apart-apart.ensures c.if-not-apart.false) (said_false c.in_ok-each.each c.in_ok-each.ensures c.if-not-each.true)

pub for_each_atom-returns : goal.for_each_atom-returns
for_each_atom-returns g t c =
    true_holds (front_all (ForAtom c.args.self.now.judge.now c.args.variable.now (variable_list (map variable_of c.args.rest.now)) (λ names. Says c.args.sense (HoldsIn c.args.self.now.judge.now (claim_of c.args.formula.now) names c.args.position)) (scope_names c.args.self.now.judge.now c.args.scope.now) c.args.position (earlier_list c.args.earlier.now)) c.args.atoms.now.tuples c.loop-place.place (omega arith) c.loop-place.invariant)
