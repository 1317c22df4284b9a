use Rattle.std.proofs.Common.{◌≡◌, ◌-◌, ◌+◌, ℕ, Bool, List, [], length, sym, subst, refl, arith}
use Rattle.std.proofs.lemmas.Option.{slice_get_read}
use Rattle.gate_trait.specs.declared.node.Node.{Node}
use Rattle.gate_trait.proofs.KeptLemmas.{keeps_refl, keeps_trans, all_none, all_same}
use Rattle.bmc_leaves.proofs.RowLaws.{row_kept}
use Rattle.bmc_places.proofs.RoundLaws.{TellsTo, AgainAt, windows_none, windows_more, again_all, tells_moved}
use Rattle.bmc_places.proofs.round_rows.again_row.Goals as goal

pub loop-number-init : goal.loop-number-init
loop-number-init g c =
    let value = g.G.Gates.node_value in
    let belongs = g.G.Gates.belongs in
    let first = c.args.gates.now in
    let again = AgainAt (value first) c.args.f.now c.args.g.now c.args.onces.now c.args.round in
    record {
      keeps = keeps_refl belongs value first;
      belong = all_same (belongs first) [] c.new-row.result c.new-row.ensures (all_none (belongs first));
      again = λ states rounds fr. subst (λ (r : List Node). TellsTo (value first) again states rounds c.args.frame.now r 0) (sym c.new-row.ensures) (windows_none (value first) again states rounds c.args.frame.now);
    }

pub loop-number-preserved : goal.loop-number-preserved
loop-number-preserved g c =
    let value = g.G.Gates.node_value in
    let belongs = g.G.Gates.belongs in
    let before = c.loop-number.invariant in
    let first = c.args.gates.now in
    let mid = c.loop-number.gates in
    let last = c.add_again.new.gates in
    let frame = c.args.frame.now in
    let f = c.args.f.now in
    let h = c.args.g.now in
    let onces = c.args.onces.now in
    let round = c.args.round in
    let (more, is, again) = c.in_ok-add_again.ensures.added in
    let w = c.index-window.result.now in
    let long : c.len-number-end.result ≡ length frame.windows.items = omega (arith, c.len-number-end.ensures) in
    let f_kept = row_kept belongs value first mid before.keeps f c.requires.f_belongs in
    let h_kept = row_kept belongs value first mid before.keeps h c.requires.g_belongs in
    let onces_kept = row_kept belongs value first mid before.keeps onces c.requires.onces_belong in
    record {
      keeps = keeps_trans belongs value first mid last before.keeps c.add_again.ensures.keeps;
      belong = c.add_again.ensures.belongs;
      again = λ states rounds fr. windows_more belongs value mid last c.add_again.ensures.keeps (AgainAt (value first) f h onces round) states rounds frame c.loop-number.row more c.add_again.new.row c.loop-number.number w fr
          (slice_get_read frame.windows.items c.len-number-end.result c.loop-number.number w long c.loop-number-test.true c.index-window.ensures)
          before.belong (before.again states rounds fr) is again.long
          (λ x k lt inside round_tells once_tells.
          let to_mid = λ (k : ℕ) (b c : Bool) (e : b ≡ c). tells_moved (value first x) (value mid x) w f h k b c (λ j. sym (f_kept x j)) (λ j. sym (h_kept x j)) e in
          tells_moved (value mid x) (value first x) w f h k _ _ (f_kept x) (h_kept x) refl
          (again.values x k lt inside
          (to_mid (w.back - w.start) (value first x round) (value mid x round) (sym (before.keeps.values round c.requires.round_belongs x)) round_tells)
          (to_mid 0 _ _ (sym (onces_kept x (w.start + 0))) once_tells)));
    }

pub returns-clause-again : goal.returns-clause-again
returns-clause-again g c = λ states rounds fr. again_all _ _ states rounds c.args.frame.now c.args.f.now c.args.g.now c.args.onces.now c.args.round c.loop-number.row c.loop-number.number fr (omega (arith, c.loop-number-test.false)) (omega (arith, c.loop-number.auto.number-end)) (c.loop-number.invariant.again states rounds fr)
