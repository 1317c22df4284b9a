use Rattle.std.proofs.Common.{◌+◌, ◌∙◌, map, arith}
use Rattle.std.proofs.lemmas.List.{nil_from_length}
use Rattle.core_tree.specs.Trees.{variable_of, variable_list}
use Rattle.eval_steps.specs.Judged.{scope_names, earlier_list}
use Rattle.eval_tree.proofs.FoundLemmas.{if_ok_to, said_true, said_false}
use Rattle.eval_tree.proofs.ListCases.{rows_none as no_variable, rows_some, read_set}
use Rattle.eval_tree.proofs.FrontLemmas.{fresh}
use Rattle.eval_tree.proofs.RowLaw.{rows_none, rows_unfit, rows_skip, rows_more, rows_all, rows_stop}
use Rattle.eval_tree.proofs.walk.Walk.+rows.Goals as goal

pub rows_in-returns-in-None : goal.rows_in-returns-in-None
rows_in-returns-in-None g t c =
    if_ok_to _ _ (λ rows k. no_variable c.args.self.now.judge.now (scope_names c.args.self.now.judge.now c.args.scope.now) c.args.position c.args.goal.now (earlier_list c.args.earlier.now) c.args.most c.args.variables.now (nil_from_length _ c.in-None.ensures.cases) rows.items k) c.last_row.result (c.last_row.ensures (earlier_list c.args.earlier.now) c.args.most)

pub rows_in-returns-in_ok-found-in-Some : goal.rows_in-returns-in_ok-found-in-Some
rows_in-returns-in_ok-found-in-Some g t c =
    if_ok_to _ _ (λ rows k. rows_some c.args.self.now.judge.now (scope_names c.args.self.now.judge.now c.args.scope.now) c.args.position c.args.goal.now (earlier_list c.args.earlier.now) c.args.most c.args.variables.now c.in-Some.first.now c.in-Some.rest.now c.in-Some.ensures.cases.0 c.set_of-atoms.result.now (read_set c.args.self.now.judge.now (scope_names c.args.self.now.judge.now c.args.scope.now) c.args.position c.in-Some.first.now.bound c.in_ok-found-in-Some.found c.in_ok-found-in-Some.ensures c.set_of-atoms.result.now c.set_of-atoms.ensures) rows.items k) c.rows_of_atoms.result c.rows_of_atoms.ensures

pub rows_of_atoms-returns-then-arity-ne1 : goal.rows_of_atoms-returns-then-arity-ne1
rows_of_atoms-returns-then-arity-ne1 g t c =
    rw c.new-rows.ensures.items (rows_unfit c.args.self.now.judge.now c.args.goal.now c.args.variable.now (variable_list (map variable_of c.args.rest.now)) (scope_names c.args.self.now.judge.now c.args.scope.now) c.args.position (earlier_list c.args.earlier.now) c.args.most c.args.atoms.now c.arity.ensures.set (λ e. c.if-arity-ne1.true (c.arity.ensures.columns ∙ e)))

pub rows_of_atoms-loop-place-init : goal.rows_of_atoms-loop-place-init
rows_of_atoms-loop-place-init g t c =
    rw c.new-rows.ensures.items (rows_none c.args.self.now.judge.now c.args.goal.now c.args.variable.now (variable_list (map variable_of c.args.rest.now)) (scope_names c.args.self.now.judge.now c.args.scope.now) c.args.position (earlier_list c.args.earlier.now) c.args.most c.args.atoms.now.tuples)

pub rows_of_atoms-loop-place-preserved-then-not-apart : goal.rows_of_atoms-loop-place-preserved-then-not-apart
rows_of_atoms-loop-place-preserved-then-not-apart g t c =
    rows_skip c.args.self.now.judge.now c.args.goal.now c.args.variable.now (variable_list (map variable_of c.args.rest.now)) (scope_names c.args.self.now.judge.now c.args.scope.now) c.args.position (earlier_list c.args.earlier.now) c.args.most c.args.atoms.now.tuples c.loop-place.place c.atom_at-atom.result (omega arith) c.atom_at-atom.ensures (said_false c.is_apart-apart.result c.is_apart-apart.ensures c.if-not-apart.true) c.loop-place.rows.items c.loop-place.invariant

pub rows_of_atoms-loop-place-preserved : goal.rows_of_atoms-loop-place-preserved
rows_of_atoms-loop-place-preserved g t c =
    rows_more c.args.self.now.judge.now c.args.goal.now c.args.variable.now (variable_list (map variable_of c.args.rest.now)) (scope_names c.args.self.now.judge.now c.args.scope.now) c.args.position (earlier_list c.args.earlier.now) c.args.most c.args.atoms.now.tuples c.loop-place.place c.atom_at-atom.result (omega arith) c.atom_at-atom.ensures (fresh c.args.atoms.now c.loop-place.place _ c.arity.ensures.set c.atom_at-atom.ensures) (said_true c.is_apart-apart.result c.is_apart-apart.ensures c.if-not-apart.false) c.loop-place.rows.items c.in_ok-more.more.items c.add_rows.new.rows.items c.loop-place.invariant c.in_ok-more.ensures (rw c.deref.ensures.value at c.in_ok-add_rows.ensures)

pub rows_of_atoms-returns-then-len-most : goal.rows_of_atoms-returns-then-len-most
rows_of_atoms-returns-then-len-most g t c =
    rows_stop c.args.self.now.judge.now c.args.goal.now c.args.variable.now (variable_list (map variable_of c.args.rest.now)) (scope_names c.args.self.now.judge.now c.args.scope.now) c.args.position (earlier_list c.args.earlier.now) c.args.most c.args.atoms.now (c.loop-place.place + 1) c.add_rows.new.rows.items (omega arith) (rows_more c.args.self.now.judge.now c.args.goal.now c.args.variable.now (variable_list (map variable_of c.args.rest.now)) (scope_names c.args.self.now.judge.now c.args.scope.now) c.args.position (earlier_list c.args.earlier.now) c.args.most c.args.atoms.now.tuples c.loop-place.place c.atom_at-atom.result (omega arith) c.atom_at-atom.ensures (fresh c.args.atoms.now c.loop-place.place _ c.arity.ensures.set c.atom_at-atom.ensures) (said_true c.is_apart-apart.result c.is_apart-apart.ensures c.if-not-apart.false) c.loop-place.rows.items c.in_ok-more.more.items c.add_rows.new.rows.items c.loop-place.invariant c.in_ok-more.ensures (rw c.deref.ensures.value at c.in_ok-add_rows.ensures))

pub rows_of_atoms-returns : goal.rows_of_atoms-returns
rows_of_atoms-returns g t c =
    rows_all c.args.self.now.judge.now c.args.goal.now c.args.variable.now (variable_list (map variable_of c.args.rest.now)) (scope_names c.args.self.now.judge.now c.args.scope.now) c.args.position (earlier_list c.args.earlier.now) c.args.most c.args.atoms.now c.loop-place.place (omega arith) c.loop-place.rows.items c.loop-place.invariant
