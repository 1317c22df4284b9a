use Rattle.std.proofs.Common.{arith, ◌-◌, ◌∙◌, sym, ap, subst, List, drop}
use Rattle.std.proofs.lemmas.List.Elements.{All-take, All-drop}
use Rattle.gate_matrix.specs.declared.entry.Entry.{Entry}
use Rattle.gate_matrix.specs.Matrices.{MatrixEntries, truth}
use Rattle.gate_matrix.proofs.BasicLemmas.{belong_kept}
use Rattle.gate_matrix.proofs.GatherLaw.{Collapsing, collapsing_none, collapsing_step, collapsed_matrix, collapsed_truth}
use Rattle.gate_matrix.proofs.gather.collapsed.Goals as goal

pub loop-place-init : goal.loop-place-init
loop-place-init g c = collapsing_none g.G.Gates.belongs g.G.Gates.node_value c.args.arity c.args.entries.now c.requires.columns c.requires.numbers c.args.gates.now c.new-all.result.items c.new-all.ensures.items c.requires.least c.requires.most

pub any_of-requires : goal.any_of-requires
any_of-requires g c =
    let belongs = g.G.Gates.belongs in
    let now = c.loop-place.gates in
    let place = c.loop-place.place in
    let es = c.args.entries.now in
    All-take (λ (f : Entry). belongs now f.node) (c.run_end-end.result - place) (drop place es)
    (All-drop (λ (f : Entry). belongs now f.node) place es (belong_kept belongs g.G.Gates.node_value c.args.gates.now now c.loop-place.invariant.keeps es c.requires.belongs))

pub loop-place-preserved : goal.loop-place-preserved
loop-place-preserved g c =
    let belongs = g.G.Gates.belongs in
    let value = g.G.Gates.node_value in
    let es = c.args.entries.now in
    let place = c.loop-place.place in
    let end = c.run_end-end.result in
    let e = c.index-entries-place.result in
    let index = c.index.ensures.index in
    subst (λ (all : List Entry). Collapsing belongs value c.args.arity c.args.gates.now c.any_of.new.gates es all end) (sym c.in_ok-add_some.ensures)
    (collapsing_step belongs value c.args.arity es c.requires.columns c.requires.numbers c.requires.order e place end c.loop-place-test.true c.index-entries-place.is c.run_end-end.ensures.after c.run_end-end.ensures.within
    (λ k d low high. c.run_end-end.ensures.same k d low high ∙ index)
    (λ d within same. c.run_end-end.ensures.next d within (same ∙ sym index))
    c.args.gates.now c.loop-place.gates c.any_of.new.gates c.loop-place.all.items c.in_ok-node.node c.any_of.ensures.keeps c.requires.belongs c.in_ok-node.ensures.ok c.loop-place.invariant)

pub sorted-requires : goal.sorted-requires
sorted-requires g c = collapsed_matrix g.G.Gates.belongs g.G.Gates.node_value c.args.arity c.args.gates.now c.loop-place.gates c.args.entries.now c.loop-place.all.items c.loop-place.place c.loop-place.invariant

pub returns-clause-truth : goal.returns-clause-truth
returns-clause-truth g c = λ x t.
    ap (λ (m : MatrixEntries). truth (g.G.Gates.node_value c.loop-place.gates x) m t) c.sorted.ensures
    ∙ collapsed_truth g.G.Gates.belongs g.G.Gates.node_value c.args.arity c.args.gates.now c.loop-place.gates c.args.entries.now c.loop-place.all.items c.loop-place.place (omega arith) c.loop-place.invariant x t
