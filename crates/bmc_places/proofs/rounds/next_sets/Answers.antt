use Rattle.std.proofs.Common.{◌∙◌, ℕ, List, slice_get, ap, subst}
use Rattle.gate_matrix.specs.Matrices.{MatrixEntries}
use Rattle.bmc_windows.proofs.PushLemmas.{push_at}
use Rattle.bmc_windows.specs.Pairing.{IsMoved}
use Rattle.bmc_places.specs.Rounds.{AreNumbersNext}
use Rattle.bmc_places.proofs.StoreLaws.{extends_refl, grows_extends}
use Rattle.bmc_places.proofs.LoopSetLaws.{static_sets, turned_sets}
use Rattle.bmc_places.proofs.rounds.next_sets.Goals as goal

pub returns-then-are_static-clause-extends : goal.returns-then-are_static-clause-extends
returns-then-are_static-clause-extends g c = extends_refl c.args.store.now

pub returns-then-are_static-clause-next : goal.returns-then-are_static-clause-next
returns-then-are_static-clause-next g c =
    let same = c.in_ok-same.same.items in
    let moved = subst (λ (next : List ℕ). IsMoved c.args.row.now next same) c.deref.ensures.value c.in_ok-same.ensures.moved in
    static_sets (g.G.Gates.node_value c.args.gates.now) c.args.store.now.matrices.items c.args.frame.now c.args.choices.now c.args.row.now same moved

pub returns-clause-extends : goal.returns-clause-extends
returns-clause-extends g c = grows_extends c.args.store.now c.add_matrix.new.store c.in_ok-number.ensures.grows

pub returns-clause-next : goal.returns-clause-next
returns-clause-next g c =
    let value = g.G.Gates.node_value in
    let number = c.in_ok-number.number in
    let back = c.in_ok-back.back in
    let before = c.args.store.now.matrices.items in
    let after = c.add_matrix.new.store.matrices.items in
    let new = c.in_ok-new.new.items in
    let at = ap (λ (ms : List MatrixEntries). slice_get ms number) c.in_ok-number.ensures.added.matrices ∙ push_at before back number c.in_ok-number.ensures.number in
    let numbers = subst (λ (next : List ℕ). AreNumbersNext c.args.row.now next number new) c.deref-2.ensures.value c.in_ok-new.ensures in
    turned_sets g.G.Gates.belongs value c.args.gates.now c.set_at_loop.new.gates c.set_at_loop.ensures.keeps before after c.requires.stored.matrices c.in_ok-number.ensures.grows.matrices c.args.frame.now c.args.choices.now c.args.row.now new number back at numbers c.in_ok-back.ensures.set
