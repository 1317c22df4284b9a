use Rattle.gate_matrix.specs.declared.entry.Entry.{Entry}
use Rattle.gate_matrix.proofs.BasicLemmas.{keeps_trans, all_here, any_more}
use Rattle.gate_matrix.proofs.gather.any_of.Goals as goal

pub loop-entry-preserved : goal.loop-entry-preserved
loop-entry-preserved g c =
    let value = g.G.Gates.node_value in
    let belongs = g.G.Gates.belongs in
    let before = c.loop-entry.invariant in
    let first = c.args.gates.now in
    let now = c.loop-entry.gates in
    let e = c.entry-item.result in
    let i = c.loop-entry.entry-index in
    let there : belongs first e.node = all_here (λ (f : Entry). belongs first f.node) c.args.entries.now i e c.requires c.loop-entry-test.true c.entry-item.is in
    record {
      keeps = keeps_trans belongs value first now c.either.new.gates before.keeps c.either.ensures.keeps;
      any = record {
        there = c.in_ok-any.ensures.ok.there;
        gives = λ x. any_more (λ (f : Entry). value first x f.node) c.args.entries.now i e _ _ _
            (c.in_ok-any.ensures.ok.gives x) (before.any.gives x) (before.keeps.values e.node there x) c.loop-entry-test.true c.entry-item.is;
      };
    }
