use Rattle.std.proofs.Common.{◌≡◌, false, sym, subst, arith, eqb}
use Rattle.std.proofs.lemmas.Bool.Decides.{nat_tests}
use Rattle.core_tree.specs.Trees.{term_of}
use Rattle.core_meaning.specs.Meaning.{one_of, atom, InTerm}
use Rattle.core_meaning.specs.Called.{called, names_of}
use Rattle.eval_context.specs.Settings.{Stands}
use Rattle.eval_context.proofs.names.+look_up.Goals as goal

pub returns-else-other-name : goal.returns-else-other-name
returns-else-other-name t c w list n i t' =
    let h = c.if-other-name.false in
    let e : eqb c.args.name c.in-Atom.other ≡ false = grind (arith, nat_tests) in
    rw c.in-Atom.is (subst (λ b. Stands w (called w list n) c.look_up.result (λ j. one_of b (atom c.in-Atom.atom j) (names_of w (called w list n) c.in-Atom.rest.now c.args.name j)) i t') (sym e) (c.look_up.ensures w list n i t'))

pub returns-else-other-name-2 : goal.returns-else-other-name-2
returns-else-other-name-2 t c w list n i t' =
    let h = c.if-other-name-2.false in
    let e : eqb c.args.name c.in-Written.other ≡ false = grind (arith, nat_tests) in
    rw c.in-Written.is (subst (λ b. Stands w (called w list n) c.look_up-else-other-name-2.result (λ j. one_of b (InTerm w (called w list n) (term_of c.in-Written.expr.now) (names_of w (called w list n) c.in-Written.outer.now) j) (names_of w (called w list n) c.in-Written.rest.now c.args.name j)) i t') (sym e) (c.look_up-else-other-name-2.ensures w list n i t'))
