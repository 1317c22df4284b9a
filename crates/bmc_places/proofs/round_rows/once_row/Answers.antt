use Rattle.std.proofs.Common.{◌≡◌, ◌-◌, List, [], length, sym, subst, refl, arith}
use Rattle.std.proofs.lemmas.Option.{slice_get_read}
use Rattle.gate_trait.specs.declared.node.Node.{Node}
use Rattle.gate_trait.proofs.KeptLemmas.{keeps_refl, keeps_trans, all_none, all_same}
use Rattle.bmc_leaves.proofs.RowLaws.{row_kept}
use Rattle.bmc_places.proofs.RoundLaws.{TellsTo, OnceAt, windows_none, windows_more, once_all, tells_moved}
use Rattle.bmc_places.proofs.round_rows.once_row.Goals as goal

pub loop-number-init : goal.loop-number-init
loop-number-init g c =
    let value = g.G.Gates.node_value in
    let belongs = g.G.Gates.belongs in
    let first = c.args.gates.now in
    let once = OnceAt (value first) c.args.f.now c.args.g.now in
    record {
      keeps = keeps_refl belongs value first;
      belong = all_same (belongs first) [] c.new-row.result c.new-row.ensures (all_none (belongs first));
      once = λ states rounds fr. subst (λ (r : List Node). TellsTo (value first) once states rounds c.args.frame.now r 0) (sym c.new-row.ensures) (windows_none (value first) once states rounds c.args.frame.now);
    }

pub loop-number-preserved : goal.loop-number-preserved
loop-number-preserved g c =
    let value = g.G.Gates.node_value in
    let belongs = g.G.Gates.belongs in
    let before = c.loop-number.invariant in
    let first = c.args.gates.now in
    let mid = c.loop-number.gates in
    let last = c.add_once.new.gates in
    let frame = c.args.frame.now in
    let f = c.args.f.now in
    let h = c.args.g.now in
    let (more, is, once) = c.in_ok-add_once.ensures.added in
    let w = c.index.result.now in
    let long : c.len-number-end.result ≡ length frame.windows.items = omega (arith, c.len-number-end.ensures) in
    let f_kept = row_kept belongs value first mid before.keeps f c.requires.f_belongs in
    let h_kept = row_kept belongs value first mid before.keeps h c.requires.g_belongs in
    record {
      keeps = keeps_trans belongs value first mid last before.keeps c.add_once.ensures.keeps;
      belong = c.add_once.ensures.belongs;
      once = λ states rounds fr. windows_more belongs value mid last c.add_once.ensures.keeps (OnceAt (value first) f h) states rounds frame c.loop-number.row more c.add_once.new.row c.loop-number.number w fr
          (slice_get_read frame.windows.items c.len-number-end.result c.loop-number.number w long c.loop-number-test.true c.index.ensures)
          before.belong (before.once states rounds fr) is once.long
          (λ x k lt inside low. tells_moved (value mid x) (value first x) w f h k _ _ (f_kept x) (h_kept x) refl (once.values x k inside low));
    }

pub returns-clause-once : goal.returns-clause-once
returns-clause-once g c = λ states rounds fr. once_all _ _ states rounds c.args.frame.now c.args.f.now c.args.g.now c.loop-number.row c.loop-number.number fr (omega (arith, c.loop-number-test.false)) (omega (arith, c.loop-number.auto.number-end)) (c.loop-number.invariant.once states rounds fr)
