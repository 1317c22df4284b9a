use Rattle.std.proofs.Common.{◌≡◌, ◌≤◌, List, [], length, sym, subst, arith}
use Rattle.std.proofs.lemmas.Option.{slice_get_read}
use Rattle.gate_trait.specs.declared.node.Node.{Node}
use Rattle.gate_trait.proofs.KeptLemmas.{keeps_refl, keeps_trans, all_none, all_same}
use Rattle.bmc_stack.proofs.WindowLaws.{AlongTo, along_none, along_more, along_all}
use Rattle.bmc_stack.proofs.windows.moving.Goals as goal

pub loop-number-init : goal.loop-number-init
loop-number-init g c =
    let value = g.G.Gates.node_value in
    let belongs = g.G.Gates.belongs in
    record {
      keeps = keeps_refl belongs value c.args.gates.now;
      belong = all_same (belongs c.args.gates.now) [] c.new-row.result c.new-row.ensures (all_none (belongs c.args.gates.now));
      along = λ states rounds fr. subst (λ (r : List Node). AlongTo c.args.op (value c.args.gates.now) (value c.args.gates.now) states rounds c.args.frame.now c.args.f.now c.args.g.now r 0) (sym c.new-row.ensures) (along_none c.args.op (value c.args.gates.now) (value c.args.gates.now) states rounds c.args.frame.now c.args.f.now c.args.g.now);
    }

pub loop-number-preserved : goal.loop-number-preserved
loop-number-preserved g c =
    let value = g.G.Gates.node_value in
    let belongs = g.G.Gates.belongs in
    let before = c.loop-number.invariant in
    let first = c.args.gates.now in
    let mid = c.loop-number.gates in
    let last = c.add_window.new.gates in
    let frame = c.args.frame.now in
    let added = c.in_ok-add_window.ensures.added in
    let w = c.index.result.now in
    let long : c.len-number-end.result ≡ length frame.windows.items = omega (arith, c.len-number-end.ensures) in
    record {
      keeps = keeps_trans belongs value first mid last before.keeps c.add_window.ensures.keeps;
      belong = c.add_window.ensures.belongs;
      along = λ states rounds fr. along_more belongs value first mid last before.keeps c.add_window.ensures.keeps c.args.op states rounds frame c.args.f.now c.args.g.now c.loop-number.row added.0 c.add_window.new.row c.loop-number.number w fr
          (slice_get_read frame.windows.items c.len-number-end.result c.loop-number.number w long c.loop-number-test.true c.index.ensures)
          c.requires.f_belongs c.requires.g_belongs before.belong (before.along states rounds fr) added.1 added.2;
    }

pub returns-clause-along : goal.returns-clause-along
returns-clause-along g c = λ states rounds fr. along_all _ _ _ states rounds c.args.frame.now c.args.f.now c.args.g.now c.loop-number.row c.loop-number.number fr (omega (arith, c.loop-number-test.false)) (omega (arith, c.loop-number.auto.number-end)) (c.loop-number.invariant.along states rounds fr)
