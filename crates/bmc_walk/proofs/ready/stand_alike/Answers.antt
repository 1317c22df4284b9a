use Rattle.std.proofs.Common.{◌≡◌, ◌<◌, ◌≤◌, ℕ, List, length, sym, ◌∙◌, subst, arith}
use Rattle.std.proofs.lemmas.List.{take_all}
use Rattle.std.proofs.lemmas.List.Elements.{All-more}
use Rattle.bmc_leaves.specs.Shown.{atom_in}
use Rattle.bmc_walk.specs.Walked.{atoms_of}
use Rattle.bmc_walk.specs.Ready.{StandAlike}
use Rattle.bmc_walk.proofs.ready.stand_alike.Goals as goal

pub loop-place-preserved : goal.loop-place-preserved
loop-place-preserved c =
    let here = c.args.here.now in
    let there = c.args.there.now in
    let names = c.args.names.now in
    let x = c.index-name.result.now in
    let inside : c.loop-place.place < length names.items = omega (arith, c.loop-place-test.true, c.len-place-end.ensures, names.ok.0) in
    let same = sym c.atom_of.ensures ∙ c.same_atom-same.ensures c.if-not-same.false ∙ c.atom_of-in-loop-place.ensures in
    All-more (λ (y : ℕ). atom_in (atoms_of here) y ≡ atom_in (atoms_of there) y) names.items c.loop-place.place x inside c.loop-place.invariant
    (subst (λ (y : ℕ). atom_in (atoms_of here) y ≡ atom_in (atoms_of there) y) c.index-name.ensures same)

pub returns : goal.returns
returns c = λ yes.
    let names = c.args.names.now in
    let far : length names.items ≤ c.loop-place.place = omega (arith, c.loop-place-test.false, c.len-place-end.ensures, names.ok.0) in
    subst (λ (xs : List ℕ). StandAlike c.args.here.now c.args.there.now xs) (take_all c.loop-place.place names.items far) c.loop-place.invariant
