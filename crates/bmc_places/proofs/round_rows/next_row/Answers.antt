use Rattle.std.proofs.Common.{ℕ, List, sym, ◌∙◌, ap, subst, inl, inr, arith}
use Rattle.std.proofs.lemmas.Bool.{cases_lt}
use Rattle.std.proofs.lemmas.Option.{slice_get_within}
use Rattle.gate_temporal.specs.Rows.{row_value}
use Rattle.gate_trait.proofs.KeptLemmas.{all_kept}
use Rattle.bmc_leaves.proofs.RowLaws.{row_kept}
use Rattle.bmc_places.specs.RoundRows.{IsRowAfter}
use Rattle.bmc_places.proofs.round_rows.next_row.Goals as goal

pub row_after-requires-clause-row : goal.row_after-requires-clause-row
row_after-requires-clause-row g c = all_kept g.G.Gates.belongs g.G.Gates.node_value c.args.gates.now c.node_at_loop.new.gates c.node_at_loop.ensures.keeps c.args.row.now c.requires.row

pub returns-clause-next : goal.returns-clause-next
returns-clause-next g c =
    let value = g.G.Gates.node_value in
    let belongs = g.G.Gates.belongs in
    let old = c.args.gates.now in
    let now = c.node_at_loop.new.gates in
    let row = c.args.row.now in
    let places = c.args.frame.now.next.items in
    let back = c.in_ok-back.back in
    let new = c.in_ok-new.new in
    let after = subst (λ (ps : List ℕ). IsRowAfter (value now) ps row back new) c.deref.ensures.value c.in_ok-new.ensures.after in
    let kept = row_kept belongs value old now c.node_at_loop.ensures.keeps row c.requires.row in
    record {
      long = after.long;
      values = λ x s i j chosen at next.
          let told = after.tells x i (slice_get_within places i j at) j at in
          elim (cases_lt i j) [
            | inl later ↦ told.0 later ∙ kept x j
            | inr earlier ↦ told.1 earlier ∙ c.in_ok-back.ensures.value x s chosen ∙ (elim next [
              | inl e ↦ absurd (omega (arith, e, earlier))
              | inr e ↦ ap (λ (k : ℕ). row_value (value old x) row k) (sym e)
            ])
          ];
    }
