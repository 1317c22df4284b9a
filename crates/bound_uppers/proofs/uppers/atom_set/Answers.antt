use Rattle.std.proofs.Common.{◌↔◌, ℕ, List, IsTrue, refl, subst, arith, ◌≤◌}
use Rattle.bound_uppers.specs.AtomSets.{InRows}
use Rattle.bound_uppers.proofs.Sketching.{atom_far, atom_just, atom_off}
use Rattle.bound_uppers.proofs.uppers.atom_set.Goals as goal

pub returns-then-atom-ge16384 : goal.returns-then-atom-ge16384
returns-then-atom-ge16384 c =
    let far : 16384 ≤ c.args.atom = omega arith in
    atom_far c.args.sets.now c.args.rows.now c.args.atom c.empty-none.result c.requires.sets far c.empty-none.ensures

pub returns-then-rows_hold : goal.returns-then-rows_hold
returns-then-rows_hold c =
    let its = subst (λ (t : List ℕ). IsTrue c.rows_hold.result ↔ InRows c.args.sets.now c.args.rows.now t) c.in_ok-tuple.ensures c.rows_hold.ensures in
    atom_just c.args.sets.now c.args.rows.now c.args.atom _ c.in_ok-set.set refl c.rows_hold.result c.if-rows_hold.true its c.in_ok-set.ensures

pub returns : goal.returns
returns c =
    let its = subst (λ (t : List ℕ). IsTrue c.rows_hold.result ↔ InRows c.args.sets.now c.args.rows.now t) c.in_ok-tuple.ensures c.rows_hold.ensures in
    atom_off c.args.sets.now c.args.rows.now c.args.atom c.empty-none-2.result c.rows_hold.result c.empty-none-2.ensures c.if-rows_hold.false its
