use Rattle.std.proofs.Common.{◌≡◌, ◌+◌, ◌-◌, ℕ, Bool, length, sym, ◌∙◌, ap, refl, arith}
use Rattle.gate_temporal.specs.Rows.{row_value}
use Rattle.gate_trait.proofs.KeptLemmas.{keeps_trans, all_kept}
use Rattle.bmc_leaves.proofs.RowLaws.{row_kept}
use Rattle.bmc_leaves.proofs.LoopLaws.{only_same}
use Rattle.bmc_places.proofs.RoundLaws.{back_inside, tells_moved}
use Rattle.bmc_places.proofs.round_rows.until_row.Goals as goal

pub node_at_loop-requires-clause-choices : goal.node_at_loop-requires-clause-choices
node_at_loop-requires-clause-choices g c = all_kept g.G.Gates.belongs g.G.Gates.node_value c.args.gates.now c.once_row.new.gates c.once_row.ensures.keeps c.args.choices.now c.requires.choices

pub again_row-requires-clause-f_belongs : goal.again_row-requires-clause-f_belongs
again_row-requires-clause-f_belongs g c =
    let belongs = g.G.Gates.belongs in
    let value = g.G.Gates.node_value in
    all_kept belongs value c.args.gates.now c.node_at_loop.new.gates (keeps_trans belongs value c.args.gates.now c.once_row.new.gates c.node_at_loop.new.gates c.once_row.ensures.keeps c.node_at_loop.ensures.keeps) c.args.f.now c.requires.f_belongs

pub again_row-requires-clause-g_belongs : goal.again_row-requires-clause-g_belongs
again_row-requires-clause-g_belongs g c =
    let belongs = g.G.Gates.belongs in
    let value = g.G.Gates.node_value in
    all_kept belongs value c.args.gates.now c.node_at_loop.new.gates (keeps_trans belongs value c.args.gates.now c.once_row.new.gates c.node_at_loop.new.gates c.once_row.ensures.keeps c.node_at_loop.ensures.keeps) c.args.g.now c.requires.g_belongs

pub again_row-requires-clause-onces_belong : goal.again_row-requires-clause-onces_belong
again_row-requires-clause-onces_belong g c = all_kept g.G.Gates.belongs g.G.Gates.node_value c.once_row.new.gates c.node_at_loop.new.gates c.node_at_loop.ensures.keeps c.in_ok-onces.onces c.in_ok-onces.ensures.belongs

pub returns-clause-until : goal.returns-clause-until
returns-clause-until g c = λ states rounds some fr.
    let belongs = g.G.Gates.belongs in
    let value = g.G.Gates.node_value in
    let g0 = c.args.gates.now in
    let g1 = c.once_row.new.gates in
    let g2 = c.node_at_loop.new.gates in
    let f = c.args.f.now in
    let h = c.args.g.now in
    let choices = c.args.choices.now in
    let onces = c.in_ok-onces.onces in
    let round = c.in_ok-round.round in
    let once = c.in_ok-onces.ensures.once states rounds fr in
    let again = c.in_ok-row.ensures.again states rounds fr in
    let keeps = keeps_trans belongs value g0 g1 g2 c.once_row.ensures.keeps c.node_at_loop.ensures.keeps in
    let f_kept = row_kept belongs value g0 g2 keeps f c.requires.f_belongs in
    let h_kept = row_kept belongs value g0 g2 keeps h c.requires.g_belongs in
    let onces_kept = row_kept belongs value g1 g2 c.node_at_loop.ensures.keeps onces c.in_ok-onces.ensures.belongs in
    let choices_kept = row_kept belongs value g0 g1 c.once_row.ensures.keeps choices c.requires.choices in
    record {
      long = again.long;
      values = λ x s chosen k lt.
          let (l, only, at) = chosen in
          let (inside, back) = back_inside states rounds c.args.frame.now l s some fr at in
          let first = s.back - s.start in
          let later = only_same (row_value (value g0 x) choices) (row_value (value g1 x) choices) (length choices) l (λ j. sym (choices_kept x j)) only in
          let found : row_value (value g1 x) onces (s.start + first) ≡ value g2 x round = ap (λ (n : ℕ). row_value (value g1 x) onces n) back ∙ sym (c.in_ok-round.ensures.value x s (l, later, at)) in
          let to_second = λ (k : ℕ) (b d : Bool) (e : b ≡ d). tells_moved (value g0 x) (value g2 x) s f h k b d (λ j. sym (f_kept x j)) (λ j. sym (h_kept x j)) e in
          tells_moved (value g2 x) (value g0 x) s f h k _ _ (f_kept x) (h_kept x) refl
          (again.values x l s k at lt inside
          (to_second first (row_value (value g1 x) onces (s.start + first)) (value g2 x round) found (once.values x l s first at inside (omega arith)))
          (to_second 0 (row_value (value g1 x) onces (s.start + 0)) (row_value (value g2 x) onces (s.start + 0)) (sym (onces_kept x (s.start + 0))) (once.values x l s 0 at inside (omega arith))));
    }
