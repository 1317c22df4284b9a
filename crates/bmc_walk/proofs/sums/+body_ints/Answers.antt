use Rattle.std.proofs.Common.{List, map, drop, refl, sym, subst}
use Rattle.std.proofs.lemmas.List.{nil_from_length}
use Rattle.core_tree.specs.declared.tree.Variable.{Variable}
use Rattle.core_tree.specs.Trees.{term_of, variable_of, variable_list}
use Rattle.bmc_walk.specs.Sums.{atoms_with, HasBody}
use Rattle.bmc_walk.specs.Walked.{atoms_of}
use Rattle.bmc_walk.proofs.SumLaws.{body_none, body_more}
use Rattle.bmc_walk.proofs.sums.+body_ints.Goals as goal

pub returns-in_ok-made-in-None-clause-right : goal.returns-in_ok-made-in-None-clause-right
returns-in_ok-made-in-None-clause-right g t c =
    let value = g.G.Gates.node_value in
    let belongs = g.G.Gates.belongs in
    let ground = c.args.walk.now.ground.now in
    let known = c.args.known.now in
    let old = value c.args.gates.now in
    let new = value c.part_integers.new.gates in
    let ms = c.args.store.now.matrices.items in
    let integers = c.part_integers.new.store.integers.items in
    let e = term_of c.args.body.now in
    let ns = drop c.args.place c.args.numbers.now in
    subst (λ (vs : List Variable). HasBody ground (atoms_with (variable_list (map variable_of vs)) ns (atoms_of known)) old new ms integers e c.in_ok-made-in-None.made.items) (sym (nil_from_length _ c.in-None.ensures.cases)) (body_none ground known old new ms integers e c.in_ok-made-in-None.made.items ns c.in_ok-made-in-None.ensures.right)

pub returns-in_ok-made-in-Some-clause-right : goal.returns-in_ok-made-in-Some-clause-right
returns-in_ok-made-in-Some-clause-right g t c =
    let value = g.G.Gates.node_value in
    let belongs = g.G.Gates.belongs in
    let ground = c.args.walk.now.ground.now in
    let known = c.args.known.now in
    let old = value c.args.gates.now in
    let new = value c.body_ints.new.gates in
    let ms = c.args.store.now.matrices.items in
    let integers = c.body_ints.new.store.integers.items in
    let e = term_of c.args.body.now in
    let ns = c.args.numbers.now in
    let v = variable_of c.in-Some.variable.now in
    let made = c.in_ok-made-in-Some.made.items in
    subst (λ (vs : List Variable). HasBody ground (atoms_with (variable_list (map variable_of vs)) (drop c.args.place ns) (atoms_of known)) old new ms integers e made) (sym c.in-Some.ensures.cases.0)
    (body_more ground old new ms integers e made ns c.args.place c.in_ok-later-in-Some.later c.in_ok-atom-in-Some.atom v.name v.apart v.bound (variable_list (map variable_of c.in-Some.rest.now)) (atoms_of known) _ c.in_ok-atom-in-Some.ensures c.in_ok-later-in-Some.ensures refl c.in_ok-made-in-Some.ensures.right)
